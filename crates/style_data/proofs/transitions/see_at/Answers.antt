use Rattle.style_data.proofs.Changes.{set-changed}
use Rattle.style_data.proofs.transitions.see_at.Goals as goal

pub returns-in-Some : goal.returns-in-Some
returns-in-Some c =
    rw (c.with_seen-item.ensures, c.in-Some.ensures.value)
    (set-changed (λ r. (r.0, record r.1 { seen = c.args.seen })) c.args.running.now.items c.args.i c.in-Some.item.now c.requires)
