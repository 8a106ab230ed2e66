use Rattle.std.proofs.Common.{◌∙◌, ◌+◌, ◌-◌, ◌/◌, ◌%◌, cond, eqb, sym, ap, get_or, ℕ, List, length, arith}
use Rattle.std.proofs.lemmas.List.{length-set}
use Rattle.doc_tree.specs.Marks.{marks_until, with_ranks, with_order}
use Rattle.doc_tree.proofs.Numbers.{below-at}
use Rattle.doc_tree.proofs.Walks.{until-step, until-end, count-until, order-step, next-rank, opens-one, length-written}
use Rattle.doc_tree.proofs.order.put_ranks.Goals as goal

pub put_rank-rank-requires-clause-rank : goal.put_rank-rank-requires-clause-rank
put_rank-rank-requires-clause-rank c = λ is.
    let count = count-until c.args.next.now 1 c.args.most c.loop-step._step c.loop-step.mark c.loop-step-test.true c.if-mark-eq-END.false in
    omega (arith, c.loop-step.invariant.room, c.loop-step.invariant.slots, count, opens-one c.loop-step.mark is)

pub loop-step-preserved : goal.loop-step-preserved
loop-step-preserved c =
    let mark = c.loop-step.mark in
    let rank = c.loop-step.rank in
    let ranks = c.loop-step.ranks.items in
    let order = c.loop-step.order.items in
    let rest = marks_until c.args.next.now 1 (c.args.most - (c.loop-step._step + 1)) (get_or c.args.next.now mark 0) in
    let step = until-step c.args.next.now 1 c.args.most c.loop-step._step mark c.loop-step-test.true c.if-mark-eq-END.false in
    let count = count-until c.args.next.now 1 c.args.most c.loop-step._step mark c.loop-step-test.true c.if-mark-eq-END.false in
    let e = c.put_rank-rank.ensures in
    let inv = c.loop-step.invariant in
    let up = cond (eqb (mark % 2) 0) (rank + 1) rank in
    record {
      ranks = ap (λ (r : ℕ). with_ranks rest r c.put_rank-rank.new.ranks.items) e.rank ∙ (ap (λ (rs : List ℕ). with_ranks rest up rs) e.ranks ∙ (sym (ap (λ (ms : List ℕ). with_ranks ms rank ranks) step) ∙ inv.ranks));
      order = ap (λ (r : ℕ). with_order rest r c.put_rank-rank.new.order.items) e.rank ∙ (ap (λ (rs : List ℕ). with_order rest up rs) e.order ∙ (sym (ap (λ (ms : List ℕ). with_order ms rank order) step ∙ order-step mark rest rank order) ∙ inv.order));
      marks = ap length e.ranks ∙ (length-set ranks mark rank ∙ inv.marks);
      slots = ap length e.order ∙ (length-written (eqb (mark % 2) 0) order rank (mark / 2 - 1) ∙ inv.slots);
      within = below-at c.args.next.now mark _ inv.within c.requires.links;
      room = omega (arith, e.rank, next-rank mark rank, count, inv.room);
    }

pub returns-then-mark-eq-END-clause-ranks : goal.returns-then-mark-eq-END-clause-ranks
returns-then-mark-eq-END-clause-ranks c =
    sym (ap (λ (ms : List ℕ). with_ranks ms c.loop-step.rank c.loop-step.ranks.items) (until-end c.args.next.now 1 (c.args.most - c.loop-step._step) c.loop-step.mark c.if-mark-eq-END.true)) ∙ c.loop-step.invariant.ranks

pub returns-then-mark-eq-END-clause-order : goal.returns-then-mark-eq-END-clause-order
returns-then-mark-eq-END-clause-order c =
    sym (ap (λ (ms : List ℕ). with_order ms c.loop-step.rank c.loop-step.order.items) (until-end c.args.next.now 1 (c.args.most - c.loop-step._step) c.loop-step.mark c.if-mark-eq-END.true)) ∙ c.loop-step.invariant.order
