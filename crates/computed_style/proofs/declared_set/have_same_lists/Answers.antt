use Rattle.std.proofs.Common.{◌≡◌, arith, refl}
use borrow.Author.Count.{below_more}
use Rattle.value_types.specs.declared.list_value.ListName.{ListName}
use Rattle.computed_style.proofs.Tables.{place_small}
use Rattle.computed_style.specs.Winners.{list_winners_of, no_list_winners, place_of}
use Rattle.computed_style.proofs.ByIndex.{list_at, same_by_list, every_list}
use Rattle.computed_style.proofs.declared_set.have_same_lists.Goals as goal

pub loop-name-preserved : goal.loop-name-preserved
unfolding list_at
loop-name-preserved c =
    record {
      each = below_more (λ i. list_winners_of c.args.a.now (list_at i) ≡ list_winners_of c.args.b.now (list_at i)) c.loop-name.name-index c.loop-name.invariant.each (c.have_same_list.ensures.same.0 c.if-not-have_same_list.false);
      all = λ some. c.have_same_list.ensures.all;
    }

pub returns : goal.returns
returns c =
    let all = c.loop-name.invariant.all (omega arith) in
    let each : (p : ListName) → list_winners_of c.args.a.now p ≡ list_winners_of c.args.b.now p =
    λ p. every_list (λ q. list_winners_of c.args.a.now q ≡ list_winners_of c.args.b.now q) p (c.loop-name.invariant.each (place_of p) (omega (arith, place_small p, c.loop-name-test.false))) in
    (λ _. same_by_list c.args.a.now.lists c.args.b.now.lists no_list_winners all.0.list_count all.1.list_count each, λ _. refl)
