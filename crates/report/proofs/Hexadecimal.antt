-- `hexadecimal n` is the notation of n hexadecimal digits and no other: it has n characters, each a lower-case digit,
-- reading it back gives the number, if the number is below 16 ^ n, and n such digits are the `hexadecimal n` of what
-- they spell.
-- Assumes nothing.
use Rattle.wire.proofs.Usual.{◌≡◌, refl, sym, ap, ◌∙◌, List, [], ◌∷◌, ◌++◌, append-nil, ℕ, zero, suc, ◌+◌}
use Rattle.wire.proofs.Usual.{◌-◌}
use Rattle.wire.proofs.Usual.{◌*◌, ◌/◌, ◌%◌, ◌<◌, zero-add, dec_lt, arith, lt-ltb, length, length-append}
use Prim.Native.Nat.{◌^◌}
use native.Mathlib.Nat.{pow-succ', add-zero, add-suc, suc-add}
use borrow.Author.Tests.{le-ltb}
use lib.Seq.{append_snoc}
use Rattle.report.specs.LedgerLines.{hex_digit, hexadecimal, digit_of, hex_on, hex_value}
use Rattle.report.specs.LedgerLines.{HexCharacter, HexDigits}

-- ---- one digit more

pub hex_more : (n x : ℕ) → hexadecimal (suc n) x ≡ hexadecimal n (x / 16) ++ (hex_digit (x % 16) ∷ [])
unfolding hexadecimal
hex_more n x = refl

pub hex_none : (x : ℕ) → hexadecimal 0 x ≡ []
unfolding hexadecimal
hex_none x = refl

-- ---- how many digits

pub hex_length : (n x : ℕ) → length (hexadecimal n x) ≡ n
hex_length zero x = ap length (hex_none x)
hex_length (suc n) x =
    ap length (hex_more n x)
    ∙ length-append (hexadecimal n (x / 16)) (hex_digit (x % 16) ∷ [])
    ∙ omega (arith, hex_length n (x / 16))

-- ---- which digits

character : (d : ℕ) → Dec (d < 10) → d < 16 → HexCharacter (hex_digit d)
character d (yes l) h = rw (lt-ltb d 10 l) (HexCharacter.figure {c = 48 + d} (omega arith) (omega arith))
character d (no l) h =
    rw (le-ltb d 10 (omega (arith, l))) (HexCharacter.letter {c = 87 + d} (omega (arith, l)) (omega arith))

digits_last : {cs : List ℕ} {c : ℕ} → HexDigits cs → HexCharacter c → HexDigits (cs ++ (c ∷ []))
digits_last HexDigits.none h = HexDigits.more h HexDigits.none
digits_last (HexDigits.more a ds) h = HexDigits.more a (digits_last ds h)

-- every character is a lower-case hexadecimal digit
pub hex_digits : (n x : ℕ) → HexDigits (hexadecimal n x)
hex_digits zero x = rw (hex_none x) HexDigits.none
hex_digits (suc n) x =
    rw (hex_more n x)
    (digits_last (hex_digits n (x / 16)) (character (x % 16) (dec_lt (x % 16) 10) (omega arith)))

-- ---- read back

-- a digit's character is that digit
digit-of : (d : ℕ) → Dec (d < 10) → d < 16 → digit_of (hex_digit d) ≡ d
digit-of d (yes l) h = rw (lt-ltb d 10 l) (rw (lt-ltb (48 + d) 58 (omega arith)) (omega arith))
digit-of d (no l) h =
    rw (le-ltb d 10 (omega (arith, l))) (rw (le-ltb (87 + d) 58 (omega (arith, l))) (omega (arith, l)))

read_last : (v c : ℕ) (cs : List ℕ) → hex_on v (cs ++ (c ∷ [])) ≡ 16 * hex_on v cs + digit_of c
read_last v c [] = refl
read_last v c (b ∷ cs) = read_last (16 * v + digit_of b) c cs

-- n digits of a number that has no more spell the number
pub hex_value_is : (n x : ℕ) → x < 16 ^ n → hex_value (hexadecimal n x) ≡ x
hex_value_is zero x h = ap hex_value (hex_none x) ∙ omega arith
hex_value_is (suc n) x h =
    let high : x < 16 * 16 ^ n = rw (pow-succ' 16 n) at h in
    let d = x % 16 in
    ap hex_value (hex_more n x)
    ∙ read_last 0 (hex_digit d) (hexadecimal n (x / 16))
    ∙ omega (arith, hex_value_is n (x / 16) (omega arith), digit-of d (dec_lt d 10) (omega arith))

-- ---- no other notation

-- a hexadecimal digit is below 16, and its character is the one that it was read from
small : {c : ℕ} → HexCharacter c → digit_of c < 16
small {c} (HexCharacter.figure p q) = rw (lt-ltb c 58 (omega arith)) (omega arith)
small {c} (HexCharacter.letter p q) = rw (le-ltb c 58 (omega arith)) (omega arith)

back : {c : ℕ} → HexCharacter c → hex_digit (digit_of c) ≡ c
back {c} (HexCharacter.figure p q) =
    rw (lt-ltb c 58 (omega arith)) (rw (lt-ltb (c - 48) 10 (omega arith)) (omega arith))
back {c} (HexCharacter.letter p q) =
    rw (le-ltb c 58 (omega arith)) (rw (le-ltb (c - 87) 10 (omega arith)) (omega arith))

-- digits behind k others are the last digits of what is read with them
reads_on : (k v : ℕ) {cs : List ℕ} → HexDigits cs →
    hexadecimal (k + length cs) (hex_on v cs) ≡ hexadecimal k v ++ cs
reads_on k v HexDigits.none = ap (λ (n : ℕ). hexadecimal n v) (add-zero k) ∙ sym (append-nil (hexadecimal k v))
reads_on k v (HexDigits.more {c = c} {cs = ds} h d) =
    let w = 16 * v + digit_of c in
    let front : w / 16 ≡ v = omega (arith, small h) in
    let last : w % 16 ≡ digit_of c = omega (arith, small h) in
    ap (λ (n : ℕ). hexadecimal n (hex_on w ds)) (add-suc k (length ds) ∙ sym (suc-add k (length ds)))
    ∙ reads_on (suc k) w d
    ∙ ap (λ (s : List ℕ). s ++ ds) (hex_more k w)
    ∙ append_snoc (hexadecimal k (w / 16)) (hex_digit (w % 16)) ds
    ∙ rw (front, last, back h)

-- digits in lower case are the digits of what they spell: no number has a second notation of so many
pub hex_only : {cs : List ℕ} → HexDigits cs → cs ≡ hexadecimal (length cs) (hex_value cs)
hex_only {cs} d =
    sym (ap (λ (n : ℕ). hexadecimal n (hex_value cs)) (sym (zero-add (length cs)))
    ∙ reads_on 0 0 d
    ∙ ap (λ (s : List ℕ). s ++ cs) (hex_none 0))
