-- How the frames of a rule are read block by block.
use Rattle.std.proofs.Common.{◌≡◌, ℕ, ◌+◌, ◌-◌, ◌<◌, zero, suc, List, length, refl, ap, sym, ◌∙◌, arith}
use Rattle.std.specs.Prelude.{None, Some, Ok, Err}
use Rattle.css_token.specs.declared.token.Token.{Token}
use Rattle.value_types.specs.Keyframes.{IsFrames}
use Rattle.value_types.specs.declared.frame.Frame.{Frame}
use Rattle.sheet_rules.specs.declared.fault.CssFault.{CssFault}
use Rattle.sheet_rules.specs.declared.fault.CssFault.TheVariants.{BadToken}
use Rattle.sheet_rules.specs.Faults.{◌>>=◌}
use Rattle.sheet_rules.specs.Keyframes.{after_close, closed_or, frame_at, frames_at}
use Rattle.sheet_rules.specs.Scanning.{after_spaces}
use Rattle.sheet_rules.proofs.Within.{Lie}

-- the blocks that are left make of the frames what all of them make of those before
pub record AreReading (text : List ℕ) (before : List Frame) (tokens : List Token) (blocks left : ℕ) (frames : List Frame) (rest : List Token) : Type 0 where
  pub lie : Lie text rest
  pub ordered : IsFrames frames
  pub reading : frames_at text blocks left frames rest ≡ frames_at text 65 64 before tokens

pub frames_more : (text : List ℕ) (blocks left : ℕ) (frames : List Frame) (rest : List Token) → frames_at text (suc blocks) left frames rest
    ≡ closed_or (after_close (after_spaces rest)) frames (frame_at text left frames (after_spaces rest) >>= (λ next. frames_at text blocks next.1 next.0 next.2))
unfolding frames_at
frames_more text blocks left frames rest = refl

pub frames_none : (text : List ℕ) (left : ℕ) (frames : List Frame) (rest : List Token) → frames_at text zero left frames rest ≡ Err (BadToken (length text))
unfolding frames_at
frames_none text left frames rest = refl

one_less : (n done : ℕ) → done < n → n - done ≡ suc (n - (done + 1))
one_less n done h = omega (arith, h)

-- at the rule's end
pub frames_end : (text : List ℕ) (done left : ℕ) (frames : List Frame) (rest next others : List Token) → done < 65
    → next ≡ after_spaces rest → after_close next ≡ Some others → frames_at text (65 - done) left frames rest ≡ Ok (frames, others)
frames_end text done left frames rest next others h is closed =
    ap (λ n. frames_at text n left frames rest) (one_less 65 done h) ∙ frames_more text (65 - (done + 1)) left frames rest
    ∙ rw (sym is, closed) refl

-- a fault of a block
pub frames_fault : (text : List ℕ) (done left : ℕ) (frames : List Frame) (rest next : List Token) (fault : CssFault) → done < 65
    → next ≡ after_spaces rest → after_close next ≡ None → frame_at text left frames next ≡ Err fault → frames_at text (65 - done) left frames rest ≡ Err fault
frames_fault text done left frames rest next fault h is more e =
    ap (λ n. frames_at text n left frames rest) (one_less 65 done h) ∙ frames_more text (65 - (done + 1)) left frames rest
    ∙ rw (sym is, more, e) refl

-- one block more
pub frames_next : (text : List ℕ) (done left left' : ℕ) (frames frames' : List Frame) (rest next others : List Token) → done < 65
    → next ≡ after_spaces rest → after_close next ≡ None → frame_at text left frames next ≡ Ok (frames', left', others)
    → frames_at text (65 - done) left frames rest ≡ frames_at text (65 - (done + 1)) left' frames' others
frames_next text done left left' frames frames' rest next others h is more e =
    ap (λ n. frames_at text n left frames rest) (one_less 65 done h) ∙ frames_more text (65 - (done + 1)) left frames rest
    ∙ rw (sym is, more, e) refl
