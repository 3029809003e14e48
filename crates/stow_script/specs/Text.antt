-- Bytes as a script writes them.
use Rattle.std.specs.Prelude.{◌≡◌, ◌≢◌, ◌≤◌, ℕ, List, [], ◌∷◌, ◌++◌, if◌then◌else◌, ◌==◌, ◌&&◌, nat_le, codes, Ok, ◌⊎◌}
use Rattle.std.specs.List.{flat_map}
use Rattle.hex.specs.Hex.{encode_lower, decode_of}

-- a byte: a printing character of ASCII stands for itself, and a backslash begins every other text
abbrev pub byte_text : ℕ → List ℕ
byte_text byte =
    if byte == 13 then codes "\\r"
    else if byte == 10 then codes "\\n"
    else if byte == 92 then codes "\\\\"
    else if nat_le 32 byte && nat_le byte 126 then byte ∷ []
    else codes "\\x" ++ encode_lower (byte ∷ [])

abbrev pub text_of : List ℕ → List ℕ
text_of bytes = flat_map byte_text bytes

-- hexadecimal digits of either case whose byte this is
abbrev pub IsHexadecimal : List ℕ → ℕ → Type 0
IsHexadecimal digits byte = decode_of digits ≡ Ok (byte ∷ [])

-- what stands behind a backslash, and its byte
abbrev pub IsEscape : List ℕ → ℕ → Type 0
IsEscape text byte = ((text ≡ codes "r") × (byte ≡ 13))
    ⊎ ((text ≡ codes "n") × (byte ≡ 10))
    ⊎ ((text ≡ codes "\\") × (byte ≡ 92))
    ⊎ ((digits : List ℕ) × (text ≡ codes "x" ++ digits) × IsHexadecimal digits byte)

-- a text that stands for the byte
abbrev pub IsByteText : List ℕ → ℕ → Type 0
IsByteText text byte = ((text ≡ byte ∷ []) × (32 ≤ byte) × (byte ≤ 126) × (byte ≢ 92))
    ⊎ ((escape : List ℕ) × (text ≡ 92 ∷ escape) × IsEscape escape byte)

-- the text is a text of each byte, in order
abbrev pub StandsFor : List ℕ → List ℕ → Type 0
StandsFor text [] = text ≡ []
StandsFor text (byte ∷ bytes) = (front : List ℕ) × (rest : List ℕ) × (text ≡ front ++ rest)
    × IsByteText front byte × StandsFor rest bytes
