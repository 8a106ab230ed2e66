use Rattle.std.proofs.Common.{◌≡◌, ◌≢◌, ◌↔◌, Option, Some, None, Result, Ok, Err, sym, ◌∙◌}
use Rattle.doc_tree.specs.declared.fault.TreeFault.{TreeFault}
use Rattle.doc_tree.specs.declared.fault.TreeFault.TheVariants.{NoMemory}
use Rattle.doc_tree.specs.Fault.{Answers}
use Rattle.doc_tree.proofs.laws.faults_are_exact.Goals as goal

exact : (fault : Option TreeFault) (result : Result (Unit {0}) TreeFault) (e : TreeFault) → Answers fault result → e ≢ NoMemory → (fault ≡ Some e) ↔ (result ≡ Err e)
exact None (Ok x) e h other = (λ is. cc, λ is. cc)
exact None (Err f) e h other = (λ is. cc, λ is. let same : f ≡ e = cc in absurd (other (sym same ∙ h)))
exact (Some f) result e h other = (λ is. cc, λ is. cc)

pub returns : goal.returns
returns c = λ fault result e h other. exact fault result e h other
