use Rattle.std.proofs.Common.{◌≡◌, sym, subst}
use Rattle.std.specs.Prelude.{List, [], ◌∷◌, ◌++◌, Result, Ok, Err, OnOk, OnErr}
use Rattle.keyframes.specs.declared.animation_sample.SampleParts.{SampleParts}
use Rattle.keyframes.specs.SampleLists.{GiveValid, IsSample}
use Rattle.keyframes.proofs.SampleLemmas.{more_are_valid}
use Rattle.keyframes.proofs.sampled.Sampled.push.Goals as goal

either_way : {T E : Type 0} (old new : List SampleParts) (s : SampleParts) (r : Result T E) → OnOk r (new ≡ old ++ s ∷ []) → OnErr r (new ≡ old) → GiveValid old
    → IsSample s → GiveValid new
either_way old new s (Ok x) pushed same valid of = more_are_valid old new s pushed valid of
either_way old new s (Err e) pushed same valid of = subst GiveValid (sym same) valid

pub invariant_of-self : goal.invariant_of-self
invariant_of-self c = record {
  valid = either_way c.args.self.now.samples c.push.new.self c.args.sample c.push.result c.push.ensures.ok c.push.ensures.err c.args.self.now.valid
      (subst IsSample c.get-parts.ensures.value c.get-parts.ensures.bounds);
}
