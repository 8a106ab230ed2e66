-- Names are texts.
use Rattle.std.proofs.Common.{◌≡◌, ℕ, ◌<◌, List, [], ◌∷◌, true, arith}
use Rattle.std.specs.Prelude.{IsTrue}
use Rattle.std.specs.List.{list_all}
use Rattle.std.specs.Str.{IsAscii, IsUtf8}
use Rattle.std.proofs.lemmas.Bool.{and_parts}
use Rattle.std.proofs.lemmas.Bool.Decides.{nat_tests}
use Rattle.std.proofs.lemmas.Str.{IsUtf8-from_ascii}
use Rattle.std.proofs.lemmas.Str.Ascii.{IsAscii-cons, IsAscii-nil}
use Rattle.script_text.specs.Forms.{is_script_name, may_stand_in_name}

ascii_in_name : (b : ℕ) → may_stand_in_name b ≡ true → b < 128
ascii_in_name b h = grind (arith, nat_tests)

ascii_bytes : (word : List ℕ) → list_all may_stand_in_name word ≡ true → IsAscii word
ascii_bytes [] h = IsAscii-nil
ascii_bytes (b ∷ bs) h = IsAscii-cons b bs (ascii_in_name b (and_parts _ _ h).0) (ascii_bytes bs (and_parts _ _ h).1)

pub name_is_utf8 : (word : List ℕ) → IsTrue (is_script_name word) → IsUtf8 word
name_is_utf8 word h = IsUtf8-from_ascii word (ascii_bytes word (and_parts _ _ h).1)
