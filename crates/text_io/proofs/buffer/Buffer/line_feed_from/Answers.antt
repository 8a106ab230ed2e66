use Rattle.std.proofs.Common.{◌≡◌, ℕ, ◌-◌, List, length, take, drop, Some, None, ap, ◌∙◌, subst}
use Rattle.std.proofs.lemmas.List.{take_rest}
use Rattle.memchr.specs.Find.{IsFirstByte, is_byte}
use Rattle.text_io.specs.Buffer.{pending_of}
use Rattle.text_io.proofs.RangeLemmas.{found_feed, found_none}
use Rattle.text_io.proofs.buffer.Buffer.line_feed_from.Goals as goal

pub returns-in-Some : goal.returns-in-Some
returns-in-Some c =
    let rest : take (length c.pending.result.now - c.args.from) (drop c.args.from c.pending.result.now) ≡ drop c.args.from (pending_of c.args.self.now)
    = take_rest c.pending.result.now c.args.from ∙ ap (drop c.args.from) c.pending.ensures.value in
    found_feed _ c.args.from c.in-Some.at c.requires.clear
    (subst (λ (hay : List ℕ). IsFirstByte (is_byte 10) hay (Some c.in-Some.at)) rest c.in-Some.ensures)

pub returns-in-None : goal.returns-in-None
returns-in-None c =
    let rest : take (length c.pending.result.now - c.args.from) (drop c.args.from c.pending.result.now) ≡ drop c.args.from (pending_of c.args.self.now)
    = take_rest c.pending.result.now c.args.from ∙ ap (drop c.args.from) c.pending.ensures.value in
    found_none (pending_of c.args.self.now) c.args.from c.requires.within c.requires.clear
    (subst (λ (hay : List ℕ). IsFirstByte (is_byte 10) hay None) rest c.in-None.ensures)
