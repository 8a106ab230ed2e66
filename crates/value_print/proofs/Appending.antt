-- What an append keeps.
use Rattle.std.proofs.Common.{◌≡◌, ◌^◌, refl, ℕ, ◌≤◌, ◌++◌, List, length}
use Rattle.std.specs.Prelude.{pos, codes}
use Rattle.fix_num.specs.Print.{decimal_text}
use Rattle.std.specs.Fmt.{digits}
use Rattle.std.specs.Io.{StartsWith}
use Rattle.std.proofs.Transfers.{starts_with_length}
use Rattle.std.proofs.lemmas.List.{take-append-le}

pub starts_with_more : (old xs ys : List ℕ) → StartsWith xs old → StartsWith (xs ++ ys) old
starts_with_more old xs ys h =
    let short : length old ≤ length xs = starts_with_length xs old h in
    rw take-append-le h

pub greatest : decimal_text 6 (pos (2 ^ 63)) ≡ codes "9223372036854.775808"
unfolding decimal_text digits
greatest = refl
