-- Numbers in requests and in values, by their decimal texts: this product's own rule.
use Rattle.std.specs.Prelude.{ℕ, ℤ, pos, negsuc, Bool, nat_le, ◌&&◌, List, Option, Some, None, if◌then◌else◌}
use Rattle.std.specs.Fmt.{signed_decimal}
use Rattle.std.specs.Str.{bytes_eq}
use Rattle.std.specs.Str.Parse.{signed_digits_value}
use Rattle.stow_bytes.specs.Limits.{count_limit, number_limit}

-- within signed 64 bits; `negsuc n` is -1 - n
abbrev pub is_integer : ℤ → Bool
is_integer (pos n) = nat_le n number_limit
is_integer (negsuc n) = nat_le n number_limit

-- the number of 64 bits whose decimal text this is: no plus sign, no leading zero, no `-0`
unfoldable pub number_of : List ℕ → Option ℤ
number_of text =
    let n = signed_digits_value 10 text in
    if is_integer n && bytes_eq (signed_decimal n) text then Some n else None

-- a number of rows
abbrev pub count_of : Option ℤ → Option ℕ
count_of None = None
count_of (Some (pos n)) = if nat_le n count_limit then Some n else None
count_of (Some (negsuc n)) = None
