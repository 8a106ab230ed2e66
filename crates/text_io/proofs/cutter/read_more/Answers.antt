use Rattle.std.proofs.Common.{◌≡◌, ℕ, [], length, take, drop, sym, ap, ◌∙◌, append-nil, subst, arith, length-append}
use Rattle.std.proofs.KnownBytes.{Consumes-nil, Consumes-kept}
use Rattle.text_io.specs.Lines.{HasNoFeed}
use Rattle.text_io.specs.Buffer.{pending_of}
use Rattle.text_io.proofs.FillLemmas.{Fills-read, kept_clear, none_clear}
use Rattle.text_io.proofs.cutter.read_more.Goals as goal

pub returns-in-Ok-eq0-clause-given : goal.returns-in-Ok-eq0-clause-given
returns-in-Ok-eq0-clause-given g c =
    let old = pending_of c.args.buffer.now in
    let kept = pending_of c.trim.new.self in
    let new = pending_of c.read_from.new.self in
    let trim = c.trim.ensures.pending in
    let given = c.in-Ok-eq0.ensures.given in (
      given.0,
      Fills-read old kept new given.0 _ _ _ _ trim.0 c.requires.clear trim.1 trim.2 given.2 (omega (arith, c.in-Ok-eq0.ensures.taken, given.1)) given.3,
      none_clear old kept new given.0 trim.0 c.requires.clear trim.2 given.2 (omega (arith, given.1)),
    )

pub returns-then-buffer-gt-MAX_INPUT-clause-given : goal.returns-then-buffer-gt-MAX_INPUT-clause-given
returns-then-buffer-gt-MAX_INPUT-clause-given g c =
    let trim = c.trim.ensures.pending in
    let given = c.in-Ok.ensures.given in (
      given.0,
      Fills-read _ (pending_of c.trim.new.self) _ given.0 _ _ _ _ trim.0 c.requires.clear trim.1 trim.2 given.2 (omega (arith, c.in-Ok.ensures.taken, given.1)) given.3,
      tt,
    )

pub returns-else-buffer-gt-MAX_INPUT-clause-given : goal.returns-else-buffer-gt-MAX_INPUT-clause-given
returns-else-buffer-gt-MAX_INPUT-clause-given g c =
    let old = pending_of c.args.buffer.now in
    let kept = pending_of c.trim.new.self in
    let new = pending_of c.read_from.new.self in
    let trim = c.trim.ensures.pending in
    let given = c.in-Ok.ensures.given in
    let len = c.len-kept.ensures in
    let clear = kept_clear old kept new given.0 trim.0 c.requires.clear trim.2 given.2 in (
      given.0,
      Fills-read old kept new given.0 _ _ _ _ trim.0 c.requires.clear trim.1 trim.2 given.2 (omega (arith, c.in-Ok.ensures.taken, given.1)) given.3,
      (
        omega (arith, given.1),
        omega (arith, ap length given.2, length-append kept given.0),
        subst (λ (n : ℕ). HasNoFeed (take n new)) (sym len) clear.0,
        subst (λ (n : ℕ). drop n new ≡ given.0) (sym len) clear.1,
      ),
    )

pub returns-in-Err-clause-given : goal.returns-in-Err-clause-given
returns-in-Err-clause-given g c =
    let kept = pending_of c.trim.new.self in
    let trim = c.trim.ensures.pending in
    let err = c.in-Err.ensures.err in (
      [],
      Fills-read _ kept _ [] _ _ _ _ trim.0 c.requires.clear trim.1 trim.2 (err.0 ∙ sym (append-nil kept)) (omega (arith, err.1))
          (Consumes-kept _ _ _ [] (Consumes-nil _) err.2),
      tt,
    )
