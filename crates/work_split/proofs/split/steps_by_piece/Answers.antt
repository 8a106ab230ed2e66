use Rattle.std.proofs.Common.{ap, sym, subst, ◌∙◌, length, All}
use Rattle.std.specs.List.{AllZip, flat_map}
use Rattle.std.proofs.Crossing.{crosses}
use denote.Param.Send.{sendable}
use Rattle.work_split.specs.Steps.{reached, IsStepOf, IsSeatWithin}
use Rattle.work_split.proofs.Pieces.{each_piece, flat_map-map, match_ok, pieces_zipped}
use Rattle.work_split.proofs.split.steps_by_piece.Goals as goal

pub collect-requires-clause-ready : goal.collect-requires-clause-ready
collect-requires-clause-ready g c κs within =
    let fits = IsSeatWithin (length c.args.entries.now) (length c.args.downs.now) in
    let each = each_piece fits (λ piece. piece.now) c.in_ok-pieces.pieces.items (subst (All fits) (sym c.in_ok-pieces.ensures.whole) c.requires.can) in
    rw (c.map.ensures.base, c.map.ensures.f, c.with_min_len.ensures.base, c.par_iter.ensures)
    (λ k d lt x e. ((subst (λ z. All fits z.now) (sym e) (each k d lt), (search (sendable, crosses) depth 40, search (sendable, crosses) depth 40, search (sendable, crosses) depth 40, search (sendable, crosses) depth 40, search (sendable, crosses) depth 40, search (sendable, crosses) depth 40)), λ y p. tt))

pub returns : goal.returns
returns g c =
    let is = IsStepOf (g.W.TreeWork.meaning c.args.work.now) (reached c.args.entries.now c.args.downs.now) in
    let h = c.in_ok-collect.ensures in
    let chain = rw (c.map.ensures.base, c.map.ensures.f, c.with_min_len.ensures.base, c.par_iter.ensures) at h.1 in
    match_ok c.in_ok-collect.field-0 _ _ _ h.2 (λ v made.
    let whole = sym (flat_map-map (λ piece. piece.now) (λ z. z.now) chain.0) ∙ ap (flat_map (λ piece. piece.now)) chain.1 ∙ c.in_ok-pieces.ensures.whole in
    let zipped = pieces_zipped is (λ z. z.now.now) (λ w. w.items) chain.0 h.0 made.0 chain.2 made.1 in
    subst (λ l. AllZip is l (flat_map (λ w. w.items) v.items)) whole (subst (λ l. AllZip is (flat_map (λ z. z.now.now) chain.0) (flat_map (λ w. w.items) l)) (sym made.2) zipped))
