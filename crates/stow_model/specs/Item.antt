-- A reply inside an array, and its bytes.
use Rattle.std.specs.Prelude.{ℕ, ℤ, List, [], ◌∷◌, ◌++◌, length, codes}
use Rattle.std.specs.Fmt.{decimal, signed_decimal}
use Rattle.stow_model.specs.declared.item.Item as coded
use Rattle.stow_model.specs.declared.item.Item.TheVariants as in_item

pub data Item : Type 0 where
  Integer : ℤ → Item
  Bulk : List ℕ → Item
  Null : Item

-- a line: its first byte, a text, CR, LF
abbrev pub line : ℕ → List ℕ → List ℕ
line sign text = sign ∷ text ++ 13 ∷ 10 ∷ []

-- integers, bulk strings and nulls (RESP2)
abbrev pub integer_encoding : ℤ → List ℕ
integer_encoding n = line 58 (signed_decimal n)

abbrev pub bulk_encoding : List ℕ → List ℕ
bulk_encoding bytes = line 36 (decimal (length bytes)) ++ (bytes ++ 13 ∷ 10 ∷ [])

abbrev pub null_encoding : List ℕ
null_encoding = codes "$-1\r\n"

abbrev pub item_encoding : Item → List ℕ
item_encoding (Integer n) = integer_encoding n
item_encoding (Bulk bytes) = bulk_encoding bytes
item_encoding Null = null_encoding

-- what the code's type stands for, where it is lent
abbrev pub item_of : coded.Item → Item
item_of (in_item.Integer n) = Integer n
item_of (in_item.Bulk bytes) = Bulk bytes.now
item_of in_item.Null = Null
