use Rattle.std.proofs.Common.{◌≡◌, ◌+◌, ◌++◌, ◌∷◌, [], length, length-append, append-nil, append_assoc, refl, ap, sym, ◌∙◌, arith}
use Rattle.std.specs.List.{flat_map}
use Rattle.std.proofs.lemmas.Grind.{div_ceil_times}
use Rattle.std.proofs.lemmas.Grind.{flat_map-append}
use Rattle.std.proofs.lemmas.Bool.{eqb-false, eqb-true}
use Rattle.std.proofs.lemmas.List.{take-append-drop}
use Rattle.work_split.proofs.Pieces.{cut_more, nothing_left, CutMore}
use Rattle.work_split.proofs.split.pieces_of.Goals as goal

pub loop-rest-init : goal.loop-rest-init
loop-rest-init c = rw c.new-pieces.ensures.items (record { whole = refl; left = omega arith; most = omega arith })

-- how a turn cuts
turn : (c : goal.In_ok-push) → CutMore (length c.args.seats.now) c.div_ceil-size.result c.args.most (length c.loop-rest.pieces.items) (length c.loop-rest.rest.now)
turn c =
    let size = c.div_ceil-size.ensures in
    let whole = div_ceil_times (length c.args.seats.now) c.args.most c.requires in
    let other = eqb-false (length c.loop-rest.rest.now) 0 (sym c.loop-rest-test.ensures) in
    cut_more (length c.args.seats.now) c.div_ceil-size.result c.args.most (length c.loop-rest.pieces.items) (length c.loop-rest.rest.now) (rw size whole.0)
    (omega (arith, other)) c.loop-rest.invariant.left

pub loop-rest-smaller : goal.loop-rest-smaller
loop-rest-smaller c =
    let some = (turn c).some in
    let cut = c.split_at.ensures.back_len in
    let size = c.min.ensures in
    omega arith

pub loop-rest-preserved : goal.loop-rest-preserved
loop-rest-preserved c =
    let next = turn c in
    let size = c.min.ensures in
    let cut : length c.split_at.result.1.now + c.min.result ≡ length c.loop-rest.rest.now = c.split_at.ensures.back_len in
    let items = c.in_ok-push.ensures.items in
    let count : length c.push.new.self.items ≡ length c.loop-rest.pieces.items + 1 = ap length items ∙ length-append c.loop-rest.pieces.items (c.split_at.result.0 ∷ []) in
    let most = next.most_is in
    let left = next.left in
    record {
      whole =
          ap (λ l. flat_map (λ piece. piece.now) l ++ c.split_at.result.1.now) items
          ∙ ap (λ l. l ++ c.split_at.result.1.now) (flat_map-append (λ piece. piece.now) c.loop-rest.pieces.items (c.split_at.result.0 ∷ []))
          ∙ append_assoc (flat_map (λ piece. piece.now) c.loop-rest.pieces.items) (c.split_at.result.0.now ++ []) c.split_at.result.1.now
          ∙ ap (λ l. flat_map (λ piece. piece.now) c.loop-rest.pieces.items ++ l)
          (ap (λ l. l ++ c.split_at.result.1.now) (append-nil c.split_at.result.0.now)
          ∙ (λ i. c.split_at.ensures.front i ++ c.split_at.ensures.back i) ∙ take-append-drop c.min.result c.loop-rest.rest.now)
          ∙ c.loop-rest.invariant.whole;
      left = rw count (omega (arith, cut, size, left));
      most = omega (arith, count, most);
    }

pub returns-clause-whole : goal.returns-clause-whole
returns-clause-whole c =
    let empty = nothing_left c.loop-rest.rest.now (eqb-true (length c.loop-rest.rest.now) 0 (sym c.loop-rest-test.ensures)) in
    sym (append-nil _) ∙ ap (λ l. flat_map (λ piece. piece.now) c.loop-rest.pieces.items ++ l) (sym empty) ∙ c.loop-rest.invariant.whole

pub returns-clause-most : goal.returns-clause-most
returns-clause-most c = c.loop-rest.invariant.most
