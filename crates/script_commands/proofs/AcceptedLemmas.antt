-- A new world accepts every command of a generated script.
use Rattle.std.proofs.Common.{◌≡◌, ◌≤◌, ◌<◌, ℕ, zero, suc, ◌+◌, ◌-◌, ◌*◌, true, false, List, [], ◌∷◌, ◌++◌, length, map, Option, Some, None, refl, ap, sym, subst, ◌∙◌, arith}
use Rattle.std.proofs.lemmas.Bool.{and_from, and_parts, cond-false}
use Rattle.std.proofs.lemmas.Bool.Decides.{nat_tests}
use Rattle.std.specs.Prelude.{codes, flat_map, int_lt, is_none, nat_lt, not, option_map, pos, Result, Ok, Err}
use Rattle.std.specs.List.{range_with_len}
use Rattle.std.specs.Result.{is_ok, result_map_both}
use Rattle.doc_tree.specs.Change.{each_once, empty_document}
use Rattle.doc_tree.specs.Fault.{fault_of_add, fault_of_classes}
use Rattle.doc_tree.specs.declared.limits.TheConstants.{MAX_CLASSES}
use Rattle.restyle.specs.Documents.{with_last_child}
use Rattle.restyle.specs.Edits.{refusal_of, refusal_of_css, refusal_of_tree, sheet_found, with_sheet}
use Rattle.restyle.specs.Worlds.{WorldParts, new_world, world_after_frame}
use Rattle.script_text.specs.declared.command.Command.{Command}
use Rattle.script_text.specs.declared.command.Command.TheVariants.{Add, Sheet, Frame}
use Rattle.sheet_rules.specs.Rules.{sheet_of}
use Rattle.sheet_rules.specs.declared.fault.CssFault.{CssFault}
use Rattle.sheet_types.specs.Sheets.{SheetRules}
use Rattle.script_gen.proofs.FormLemmas.{element_within, parent_within}
use Rattle.script_gen.specs.Draws.{drawn, sequence_number}
use Rattle.script_gen.specs.Lines.{changed_element, drawn_parent, sheet_text}
use Rattle.script_commands.specs.Accepted.{are_accepted, next_world}
use Rattle.script_commands.specs.Generated.{add_command, change_command, class_names, round_commands, script_commands, time_command}
use Rattle.script_commands.proofs.GrownLemmas.{IsGrown, grown_classes, grown_more, grown_root, no_fault}
use Rattle.script_commands.proofs.SheetLemmas.{sheet_there}

-- ---- commands one after another

along : WorldParts → List Command → WorldParts
along w [] = w
along w (c ∷ cs) = along (next_world w c) cs

along-nil : (w : WorldParts) → along w [] ≡ w
unfolding along
along-nil w = refl

along-cons : (w : WorldParts) (c : Command) (cs : List Command) → along w (c ∷ cs) ≡ along (next_world w c) cs
unfolding along
along-cons w c cs = refl

-- the commands are accepted, and the fact holds of the world after them
record Passes (w : WorldParts) (cs : List Command) (P : WorldParts → Type 0) : Type 0 where
  accepted : are_accepted w cs ≡ true
  after : P (along w cs)

none_pass : (w : WorldParts) (P : WorldParts → Type 0) → P w → Passes w [] P
none_pass w P h = record { accepted = refl; after = subst P (sym (along-nil w)) h }

one_passes : (w : WorldParts) (c : Command) (cs : List Command) (P : WorldParts → Type 0) → refusal_of w c ≡ None → Passes (next_world w c) cs P → Passes w (c ∷ cs) P
one_passes w c cs P free h = record { accepted = and_from _ _ (ap is_none free) h.accepted; after = subst P (sym (along-cons w c cs)) h.after }

both_pass : (w : WorldParts) (cs ds : List Command) (P Q : WorldParts → Type 0) → Passes w cs P → ((v : WorldParts) → P v → Passes v ds Q) → Passes w (cs ++ ds) Q
both_pass w [] ds P Q first rest = rest w (subst P (along-nil w) first.after)
both_pass w (c ∷ cs) ds P Q first rest =
    let more : Passes (next_world w c) cs P = record { accepted = (and_parts _ _ first.accepted).1; after = subst P (along-cons w c cs) first.after } in
    let all = both_pass (next_world w c) cs ds P Q more rest in
    record { accepted = and_from _ _ (and_parts _ _ first.accepted).0 all.accepted; after = subst Q (sym (along-cons w c (cs ++ ds))) all.after }

-- ---- worlds of a generated script

-- elements 1 to `most` are there, and the time is so many microseconds
record IsReady (most time : ℕ) (w : WorldParts) : Type 0 where
  grown : IsGrown w.document most
  at : w.time ≡ record { 0 = pos time }

-- the time is at most the limit
abbrev IsReadyBy : ℕ → ℕ → WorldParts → Type 0
IsReadyBy most limit w = (time : ℕ) × (time ≤ limit) × IsReady most time w

add_passes : (seed most time : ℕ) (w : WorldParts) → 1 ≤ most → most < 2000 → IsReady most time w
    → (refusal_of w (add_command seed (suc most)) ≡ None) × IsReady (suc most) time (next_world w (add_command seed (suc most)))
add_passes seed most time w some few ready =
    let p = drawn_parent seed (suc most) in
    let within = parent_within seed (suc most) (omega arith) in
    let to : p ≤ most = omega arith in (
      ap (option_map refusal_of_tree) (no_fault w.document most p ready.grown within.0 to within.2 few),
      record { grown = grown_more w.document most p _ (codes "p") ready.grown within.0 to; at = ready.at },
    )

adds_pass : (seed most time count : ℕ) (w : WorldParts) → 1 ≤ most → most + count ≤ 2000 → IsReady most time w
    → Passes w (map (add_command seed) (range_with_len (suc most) count)) (IsReady (most + count) time)
adds_pass seed most time zero w some few ready = none_pass w (IsReady (most + 0) time) (subst (λ n. IsReady n time w) (omega arith) ready)
adds_pass seed most time (suc count) w some few ready =
    let first = add_passes seed most time w some (omega arith) ready in
    let c = add_command seed (suc most) in
    let rest : Passes (next_world w c) (map (add_command seed) (range_with_len (suc (suc most)) count)) (IsReady (suc most + count) time) =
    adds_pass seed (suc most) time count (next_world w c) (omega arith) (omega arith) first.1 in
    let start : suc (suc most) ≡ suc most + 1 = omega arith in
    let end : suc most + count ≡ most + suc count = omega arith in
    one_passes w c (map (add_command seed) (range_with_len (suc most + 1) count)) (IsReady (most + suc count) time) first.0
    (subst (λ n. Passes (next_world w c) (map (add_command seed) (range_with_len n count)) (IsReady (most + suc count) time)) start
    (subst (λ n. Passes (next_world w c) (map (add_command seed) (range_with_len (suc (suc most)) count)) (IsReady n time)) end rest))

-- ---- changes of class

few_classes : (k : ℕ) → nat_lt MAX_CLASSES (length (each_once (class_names k))) ≡ false
few_classes zero = refl
few_classes (suc zero) = refl
few_classes (suc (suc zero)) = refl
few_classes (suc (suc (suc k))) = refl

change_passes : (x i time : ℕ) (w : WorldParts) → IsReady 2000 time w
    → (refusal_of w (change_command x i) ≡ None) × IsReady 2000 time (next_world w (change_command x i))
change_passes x i time w ready =
    let n = changed_element x i in
    let names = class_names (drawn x (2 * i + 2) 4) in
    let within = element_within x i in
    let there = ready.grown.there n (omega arith) within.1 in
    let free : fault_of_classes w.document.elements n names ≡ None =
    cond-false _ _ _ (ap not there) ∙ cond-false _ _ _ (few_classes (drawn x (2 * i + 2) 4)) in (
      ap (option_map refusal_of_tree) free,
      record { grown = grown_classes w.document 2000 n names ready.grown; at = ready.at },
    )

changes_pass : (x time first count : ℕ) (w : WorldParts) → IsReady 2000 time w → Passes w (map (change_command x) (range_with_len first count)) (IsReady 2000 time)
changes_pass x time first zero w ready = none_pass w (IsReady 2000 time) ready
changes_pass x time first (suc count) w ready =
    let change = change_passes x first time w ready in
    one_passes w (change_command x first) (map (change_command x) (range_with_len (first + 1) count)) (IsReady 2000 time) change.0
    (changes_pass x time (first + 1) count (next_world w (change_command x first)) change.1)

-- ---- times and frames

not_before : (now then : ℕ) → now ≤ then → int_lt (pos then) (pos now) ≡ false
not_before now then h = grind (arith, nat_tests)

time_passes : (millis now : ℕ) (w : WorldParts) → now ≤ 1000 * millis → IsReady 2000 now w
    → (refusal_of w (time_command millis) ≡ None) × IsReady 2000 (1000 * millis) (next_world w (time_command millis))
time_passes millis now w to ready =
    let early : int_lt (pos (1000 * millis)) w.time.0 ≡ false =
    ap (λ t. int_lt (pos (1000 * millis)) t.0) ready.at ∙ not_before now (1000 * millis) to in (
      cond-false _ _ _ early,
      record { grown = ready.grown; at = refl },
    )

frame_passes : (time : ℕ) (w : WorldParts) → IsReady 2000 time w → IsReady 2000 time (next_world w Frame)
unfolding world_after_frame
frame_passes time w ready = record { grown = ready.grown; at = ready.at }

-- a time and a frame
step_passes : (millis now : ℕ) (w : WorldParts) → now ≤ 1000 * millis → IsReady 2000 now w
    → Passes w (time_command millis ∷ Frame ∷ []) (IsReady 2000 (1000 * millis))
step_passes millis now w to ready =
    let v = next_world w (time_command millis) in
    let time = time_passes millis now w to ready in
    let P = IsReady 2000 (1000 * millis) in
    one_passes w (time_command millis) (Frame ∷ []) P time.0
    (one_passes v Frame [] P refl (none_pass (next_world v Frame) P (frame_passes (1000 * millis) v time.1)))

round_passes : (x r now : ℕ) (w : WorldParts) → now ≤ 1000 * (200 * r) → IsReady 2000 now w → Passes w (round_commands x r) (IsReady 2000 (1000 * (200 * r)))
unfolding round_commands
round_passes x r now w to ready =
    both_pass w (map (change_command x) (range_with_len (50 * (r - 1)) 50)) (time_command (200 * r) ∷ Frame ∷ []) (IsReady 2000 now) (IsReady 2000 (1000 * (200 * r)))
    (changes_pass x now (50 * (r - 1)) 50 w ready) (λ v h. step_passes (200 * r) now v to h)

rounds_pass : (x first count : ℕ) (w : WorldParts) → IsReadyBy 2000 (200000 * first) w
    → Passes w (flat_map (round_commands x) (range_with_len first count)) (IsReadyBy 2000 (200000 * (first + count)))
rounds_pass x first zero w ready =
    none_pass w (IsReadyBy 2000 (200000 * (first + 0))) (ready.0, omega arith, ready.2)
rounds_pass x first (suc count) w ready =
    let limit : first + suc count ≡ first + 1 + count = omega arith in
    both_pass w (round_commands x first) (flat_map (round_commands x) (range_with_len (first + 1) count)) (IsReady 2000 (1000 * (200 * first))) (IsReadyBy 2000 (200000 * (first + suc count)))
    (round_passes x first ready.0 w (omega arith) ready.2)
    (λ v h. subst (λ n. Passes v (flat_map (round_commands x) (range_with_len (first + 1) count)) (IsReadyBy 2000 (200000 * n))) (sym limit)
    (rounds_pass x (first + 1) count v (1000 * (200 * first), omega arith, h)))

-- ---- the sheet and the root

no_refusal : (r : Result SheetRules CssFault) → is_ok r ≡ true → refusal_of_css (result_map_both (λ (s : SheetRules). Some s) (λ (f : CssFault). f) r) ≡ None
no_refusal (Ok s) h = refl
no_refusal (Err f) h = cc

same_document : (w : WorldParts) (r : Result (Option SheetRules) CssFault) → (with_sheet w 1 r).document ≡ w.document
same_document w (Ok s) = refl
same_document w (Err f) = refl

same_time : (w : WorldParts) (r : Result (Option SheetRules) CssFault) → (with_sheet w 1 r).time ≡ w.time
same_time w (Ok s) = refl
same_time w (Err f) = refl

sheet_passes : refusal_of new_world (Sheet 1 sheet_text) ≡ None
sheet_passes = no_refusal (sheet_of sheet_text) sheet_there

root_free : (w : WorldParts) → w.document ≡ empty_document → refusal_of w (Add 1 None (codes "div")) ≡ None
root_free w none = ap (λ d. option_map refusal_of_tree (fault_of_add d 1 None)) none

root_ready : (w : WorldParts) → w.document ≡ empty_document → w.time ≡ record { 0 = pos 0 } → IsReady 1 0 (next_world w (Add 1 None (codes "div")))
root_ready w none start =
    record { grown = subst (λ d. IsGrown (with_last_child d 1 None (codes "div")) 1) (sym none) (grown_root (codes "div")); at = start }

-- ---- all commands

pub script_accepted : (seed : ℕ) → are_accepted new_world (script_commands seed) ≡ true
unfolding script_commands
script_accepted seed =
    let x = sequence_number seed 1999 in
    let first = next_world new_world (Sheet 1 sheet_text) in
    let empty = same_document new_world (sheet_found sheet_text) in
    let start = same_time new_world (sheet_found sheet_text) in
    let root = Add 1 None (codes "div") in
    let adds = map (add_command seed) (range_with_len 2 1999) in
    let rounds = flat_map (round_commands x) (range_with_len 1 60) in
    let front : Passes new_world (Sheet 1 sheet_text ∷ root ∷ adds) (IsReady 2000 0) =
    one_passes new_world (Sheet 1 sheet_text) (root ∷ adds) (IsReady 2000 0) sheet_passes
    (one_passes first root adds (IsReady 2000 0) (root_free first empty)
    (adds_pass seed 1 0 1999 (next_world first root) (omega arith) (omega arith) (root_ready first empty start))) in
    let framed : Passes new_world (Sheet 1 sheet_text ∷ root ∷ adds ++ Frame ∷ rounds) (IsReadyBy 2000 12200000) =
    both_pass new_world (Sheet 1 sheet_text ∷ root ∷ adds) (Frame ∷ rounds) (IsReady 2000 0) (IsReadyBy 2000 12200000) front
    (λ v h. one_passes v Frame rounds (IsReadyBy 2000 12200000) refl (rounds_pass x 1 60 (next_world v Frame) (0, omega arith, frame_passes 0 v h))) in
    let all : Passes new_world (script_commands seed) (IsReady 2000 20000000) =
    both_pass new_world (Sheet 1 sheet_text ∷ root ∷ adds ++ Frame ∷ rounds) (time_command 20000 ∷ Frame ∷ []) (IsReadyBy 2000 12200000) (IsReady 2000 20000000) framed
    (λ v h. step_passes 20000 h.0 v (omega arith) h.2) in
    all.accepted
