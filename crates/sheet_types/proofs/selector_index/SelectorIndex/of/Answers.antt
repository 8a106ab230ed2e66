use Rattle.std.proofs.Common.{◌++◌, ap, sym, ◌∙◌}
use Rattle.std.proofs.lemmas.List.{append-nil, drop_all}
use Rattle.sheet_types.specs.Candidates.{candidates_from, places_in}
use Rattle.sheet_types.specs.Index.{held}
use Rattle.sheet_types.proofs.Puts.{rule_step}
use Rattle.sheet_types.proofs.selector_index.SelectorIndex.of.Goals as goal

pub loop-at-preserved : goal.loop-at-preserved
loop-at-preserved c = record {
  sound = c.in_ok-put_rule.ensures.sound;
  places = λ key.
      rule_step key c.loop-at.at c.args.rules.now c.index-rules-at.result (held c.loop-at.index key) (held c.put_rule.new.self key) c.loop-at-test.true (sym c.index-rules-at.is)
      (c.in_ok-put_rule.ensures.value key ∙ ap (λ ss. held c.loop-at.index key ++ places_in key c.loop-at.at 0 ss) c.as_slice.ensures)
      ∙ c.loop-at.invariant.places key;
}

pub returns-clause-value : goal.returns-clause-value
returns-clause-value c = λ key.
    sym (append-nil (held c.loop-at.index key))
    ∙ ap (λ rs. held c.loop-at.index key ++ candidates_from key c.loop-at.at rs) (sym (drop_all c.loop-at.at c.args.rules.now c.loop-at-test.false))
    ∙ c.loop-at.invariant.places key
