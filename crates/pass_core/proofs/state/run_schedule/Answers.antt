use Rattle.std.proofs.Common.{◌≡◌, get_or, length, refl, subst, sym, arith}
use Rattle.pass_core.specs.Passes.{IsPass, IsPassOutcome, PassState}
use Rattle.pass_core.specs.declared.event.CoreEvent.TheVariants.{Update}
use Rattle.pass_core.proofs.Schedules.{all_run, next_running, running_pass, whole_outcome}
use Rattle.pass_core.proofs.state.run_schedule.Goals as goal

pub returns-in_err-step-clause-results : goal.returns-in_err-step-clause-results
returns-in_err-step-clause-results g c = λ nothing.
    subst (λ s. IsPass (g.W.TreeWork.meaning c.args.work.now) c.args.plan.now.places.items c.args.state.now.entries s) (sym c.in_err-step.ensures.err)
    (running_pass (g.W.TreeWork.meaning c.args.work.now) c.args.plan.now.places.items c.args.state.now c.args.events.now c.loop-event.event-index c.loop-event.state c.loop-event.invariant c.requires.proper nothing)

pub loop-event-preserved : goal.loop-event-preserved
loop-event-preserved g c =
    let event = get_or c.args.events.now c.loop-event.event-index (Update 0) in
    next_running (g.W.TreeWork.meaning c.args.work.now) c.args.plan.now.places.items c.args.state.now c.args.events.now c.loop-event.event-index c.loop-event.state c.loop-event.invariant
    event (Update 0) c.step.new.self (omega arith) refl c.in_ok-step.ensures.ok

pub returns-clause-results : goal.returns-clause-results
returns-clause-results g c = λ nothing.
    running_pass (g.W.TreeWork.meaning c.args.work.now) c.args.plan.now.places.items c.args.state.now c.args.events.now c.loop-event.event-index c.loop-event.state c.loop-event.invariant c.requires.proper nothing

pub returns-clause-whole : goal.returns-clause-whole
returns-clause-whole g c = λ nothing all.
    let end : c.loop-event.event-index ≡ length c.args.events.now = omega arith in
    subst (λ (s : PassState _ _). IsPassOutcome (g.W.TreeWork.meaning c.args.work.now) c.args.plan.now.places.items c.args.state.now.entries s.entries)
    (sym (all_run (g.W.TreeWork.meaning c.args.work.now) c.args.plan.now.places.items c.args.state.now c.args.events.now c.loop-event.event-index c.loop-event.state c.loop-event.invariant end))
    (whole_outcome (g.W.TreeWork.meaning c.args.work.now) c.args.plan.now.places.items c.args.state.now c.args.events.now c.requires.proper c.requires.entries c.requires.allowed nothing all)
