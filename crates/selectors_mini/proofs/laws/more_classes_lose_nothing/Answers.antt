use Rattle.std.proofs.Common.{◌≡◌, ap, subst, refl, List, [], ◌∷◌, ◌++◌}
use Rattle.std.specs.Prelude.{Contains}
use Rattle.std.specs.List.{AllZip}
use Rattle.std.proofs.lemmas.List.Elements.{All-weaker, All-contains}
use Rattle.doc_tree.specs.Element.{Element}
use Rattle.selectors_mini.specs.Compounds.{CompoundSelector}
use Rattle.selectors_mini.specs.Matching.{Fits, HasAtLeast, Represents}
use Rattle.selectors_mini.specs.Matching as matching
use Rattle.selectors_mini.proofs.laws.more_classes_lose_nothing.Goals as goal

still : (c : CompoundSelector) (e other : Element) → HasAtLeast e other → Represents c e → Represents c other
still c e other more is = record {
  of_type = rw more.tag is.of_type;
  has_ids = rw more.id is.has_ids;
  has_classes = All-weaker (Contains e.classes) (Contains other.classes) (λ class there. All-contains (Contains other.classes) e.classes class more.classes there) c.classes is.has_classes;
}

-- the elements of another chain after some of its first
record Cut (above others : List Element) : Type 0 where
  pub between : List Element
  pub rest : List Element
  pub others_are : between ++ rest ≡ others
  pub more : AllZip HasAtLeast above rest

cut : (between above others : List Element) → AllZip HasAtLeast (between ++ above) others → Cut above others
cut [] above others more = record { between = []; rest = others; others_are = refl; more = more }
cut (e ∷ between) above [] more = absurd more
cut (e ∷ between) above (other ∷ others) more =
    let rest = cut between above others more.1 in
    record { between = other ∷ rest.between; rest = rest.rest; others_are = ap (λ l. other ∷ l) rest.others_are; more = rest.more }

fits_still : {cs : List CompoundSelector} {chain : List Element} (others : List Element) → AllZip HasAtLeast chain others → Fits cs chain → Fits cs others
fits_still [] more (matching.first c e above is) = absurd more
fits_still (other ∷ others) more (matching.first c e above is) = matching.first c other others (still c e other more.0 is)
fits_still [] more (matching.child c before cs e above is next rest) = absurd more
fits_still (other ∷ others) more (matching.child c before cs e above is next rest) =
    matching.child c before cs other others (still c e other more.0 is) next (fits_still others more.1 rest)
fits_still [] more (matching.descendant c before cs e between above is next rest) = absurd more
fits_still (other ∷ others) more (matching.descendant c before cs e between above is next rest) =
    let there = cut between above others more.1 in
    subst (λ l. Fits (c ∷ before ∷ cs) (other ∷ l)) there.others_are
    (matching.descendant c before cs other there.between there.rest (still c e other more.0 is) next (fits_still there.rest there.more rest))

pub returns : goal.returns
returns c = λ s chain others more is. fits_still others more is
