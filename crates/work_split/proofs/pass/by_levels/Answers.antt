use Rattle.std.proofs.Common.{◌≡◌, length, map, ap, sym, subst, ◌∙◌, arith, All}
use Rattle.std.specs.Prelude.{nat_lt}
use Rattle.pass_core.proofs.Schedules.{differs_in}
use Rattle.work_split.specs.Levels.{level_at, AreLevels}
use Rattle.work_split.specs.Steps.{reached, LevelDone, IsSeatWithin}
use Rattle.work_split.proofs.LevelLists.{level_at-read}
use Rattle.work_split.proofs.Standings.{level_standing, level_within, opening_standing, whole_standing}
use Rattle.work_split.proofs.pass.by_levels.Goals as goal

pub work_level-requires-clause-can : goal.work_level-requires-clause-can
work_level-requires-clause-can g c κs within =
    let at = c.loop-level in
    let places = c.args.plan.now.places.items in
    let levels = c.deref-level-items.result.now in
    let level : level_at levels at.level-index ≡ c.as_slice-in-loop-level.result.now =
    level_at-read levels at.level-index c.level-item.result (omega arith) ∙ sym (ap (λ v. v.items) c.level-item.is) ∙ sym c.as_slice-in-loop-level.ensures.value in
    subst (All (IsSeatWithin (length at.closing.items) (length at.downs.items))) level
    (level_within (g.W.TreeWork.meaning c.args.work.now) places c.args.entries.items (differs_in places c.requires.proper) at.invariant.inner levels at.invariant.are at.level-index
    (λ i. nat_lt (at.invariant.are.depth i) at.level-index) (reached at.closing.items at.downs.items) c.requires.proper at.invariant.standing)

pub loop-level-init : goal.loop-level-init
loop-level-init g c =
    let places = c.args.plan.now.places.items in
    let are : AreLevels places (map (λ x. x.0) c.args.entries.items) c.in_ok-levels.levels.inner c.deref-level-items.result.now =
    rw c.deref-level-items.ensures.value (rw (c.as_slice.ensures.value, c.as_slice-2.ensures.value) at c.in_ok-levels.ensures) in
    let count : length c.resize.new.self.items ≡ c.in_ok-levels.levels.inner =
    let long = c.resize.new.self.ok.0 in
    let resized = c.in_ok-resize.ensures.len in
    omega arith in
    record {
      inner = c.in_ok-levels.levels.inner;
      are = are;
      standing = opening_standing (g.W.TreeWork.meaning c.args.work.now) places c.args.entries.items (differs_in places c.requires.proper) c.in_ok-levels.levels.inner c.deref-level-items.result.now are
          c.resize.new.self.items c.requires.distinct count;
    }

pub loop-level-preserved : goal.loop-level-preserved
loop-level-preserved g c =
    let at = c.loop-level in
    let m = g.W.TreeWork.meaning c.args.work.now in
    let places = c.args.plan.now.places.items in
    let levels = c.deref-level-items.result.now in
    let was = reached at.closing.items at.downs.items in
    let now = reached c.work_level.new.entries.items c.work_level.new.downs.items in
    let level : level_at levels at.level-index ≡ c.as_slice-in-loop-level.result.now =
    level_at-read levels at.level-index c.level-item.result (omega arith) ∙ sym (ap (λ v. v.items) c.level-item.is) ∙ sym c.as_slice-in-loop-level.ensures.value in
    record {
      inner = at.invariant.inner;
      are = at.invariant.are;
      standing = level_standing m places c.args.entries.items (differs_in places c.requires.proper) at.invariant.inner levels at.invariant.are at.level-index was at.invariant.standing
          c.requires.proper now (subst (λ l. LevelDone m l was now) (sym level) c.in_ok-work_level.ensures);
    }

pub returns : goal.returns
returns g c =
    let at = c.loop-level in
    let places = c.args.plan.now.places.items in
    whole_standing (g.W.TreeWork.meaning c.args.work.now) places c.args.entries.items (differs_in places c.requires.proper) at.invariant.inner c.deref-level-items.result.now at.invariant.are
    at.level-index (reached at.closing.items at.downs.items) (omega arith) at.invariant.standing
