use Rattle.std.proofs.Common.{length, ap, sym, ◌∙◌, arith}
use Rattle.std.specs.Prelude.{None}
use Rattle.std.proofs.lemmas.List.{ext_get_or}
use Rattle.sheet_types.proofs.sheets.Sheets.copy.Goals as goal

pub returns : goal.returns
returns c =
    let whole = sym (ap length c.as_slice-sheet-items.ensures.value) ∙ c.as_slice-sheet-items.ensures.count in
    let few = c.loop-at.invariant.0 in
    ext_get_or None c.loop-at.copies c.args.self.now (few ∙ sym whole)
    (λ k within. c.loop-at.invariant.1 k (let all = c.as_slice-sheet-items.ensures.count in let end = c.loop-at-test.false in omega (arith, within, few, all, end)))
