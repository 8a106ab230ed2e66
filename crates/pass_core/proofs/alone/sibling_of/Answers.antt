use Rattle.std.proofs.Common.{refl, sym}
use Rattle.std.proofs.lemmas.Bool.{ltb-true}
use Rattle.std.proofs.lemmas.Option.{slice_get_read}
use Rattle.pass_core.proofs.Lasts.{sibling_is}
use Rattle.pass_core.proofs.alone.sibling_of.Goals as goal

pub returns : goal.returns
returns g c = λ m down last handed.
    sibling_is m c.args.entries.now c.args.downs.now c.in_ok-last.last.now c.args.place down _ c.in_ok-get.field-0.now
    (rw c.in_ok-last.was at last) (c.have_one_parent.ensures c.if-not-have_one_parent.false) handed
    (slice_get_read c.args.entries.now _ c.in_ok-last.last.now.at c.in_ok-get.field-0.now refl (ltb-true _ _ (sym c.in_ok-get.ensures.lookup.0)) c.in_ok-get.ensures.lookup.1) refl refl refl c.last.ensures
