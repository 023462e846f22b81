-- The wire form of a marker: it is the eight bytes of the number's 64 bits, so each way back is exact.
use Rattle.std.proofs.Common.{◌≡◌, ℕ, suc, ◌+◌, ◌-◌, ◌*◌, ◌/◌, ◌%◌, ◌^◌, ◌<◌, Bool, true, false, ltb, List, [], ◌∷◌, ◌++◌, length, take, drop, ℤ, pos, negsuc, ◌+ℤ◌, ◌*ℤ◌, sym, refl, ap, ◌∙◌, mod-eq_of_lt, div-one, arith, length-drop, take-append-drop, length-take-le, w32, w64, Fits, SFits, to_z, of_z, ltb-false, ltb-true, le-ltb, lt-ltb}
use Rattle.std.specs.Int.{to_be_bytes, from_be_bytes}
use Rattle.std.proofs.lemmas.Nat.{be_bytes_8}
use mir.ValLaws.{of_z_fits, to_z-Fits, of_z-to_z, to_z-of_z}
use Rattle.laws.specs.Bytes.{bytes_of, number_of}
use Rattle.coherent_set.specs.Marker.{high, low, wire, unwire}
use Rattle.laws.proofs.Bytes.{Bytes, bytes_of_append, bytes_of_mod, number_of_append, number_of_lt, number_of_bytes_of, bytes_of_number_of, bytes_of_length, bytes_of_bytes, take_bytes, drop_bytes}

-- the halves of a number are those of its bits
high_bits : (z : ℤ) → SFits w64 z → of_z w32 (high z) ≡ of_z w64 z / 2 ^ 32
unfolding high
high_bits (pos n) s = refl
high_bits (negsuc n) s = omega (arith, s.sfits)

low_bits : (z : ℤ) → SFits w64 z → low z ≡ of_z w64 z % 2 ^ 32
unfolding low
low_bits (pos n) s = refl
low_bits (negsuc n) s = omega (arith, s.sfits)

pub wire_bits : (z : ℤ) → SFits w64 z → wire z ≡ bytes_of 8 (of_z w64 z)
unfolding wire
wire_bits z s =
    ap (λ n. bytes_of 4 n ++ bytes_of 4 (low z)) (high_bits z s)
    ∙ ap (λ l. bytes_of 4 (of_z w64 z / 2 ^ 32) ++ l) (ap (λ n. bytes_of 4 n) (low_bits z s) ∙ bytes_of_mod 4 (of_z w64 z))
    ∙ sym (bytes_of_append 4 4 (of_z w64 z))

-- the eight bytes of a number are those that std writes
pub be_bytes_of : (n : ℕ) → to_be_bytes w64 n ≡ bytes_of 8 n
unfolding bytes_of
be_bytes_of n = simp div-one

-- what std writes of a signed number
pub wire_written : (z : ℤ) → SFits w64 z → to_be_bytes w64 (of_z w64 z) ≡ wire z
wire_written z s = be_bytes_of (of_z w64 z) ∙ sym (wire_bits z s)

-- and the number of eight bytes is the one that std reads
pub be_number_of : (bs : List ℕ) → length bs ≡ 8 → Bytes bs → from_be_bytes w64 bs ≡ number_of bs
be_number_of bs e b =
    let n : ℕ = from_be_bytes w64 bs in
    let small : n < 2 ^ 64 = omega (arith, b 0, b 1, b 2, b 3, b 4, b 5, b 6, b 7) in
    sym (number_of_bytes_of 8 n ∙ mod-eq_of_lt small) ∙ ap number_of (sym (be_bytes_of n) ∙ be_bytes_8 bs n e b refl)

-- and back: two halves read as one number, by the sign of the first
join : (h l : ℕ) → h < 2 ^ 32 → l < 2 ^ 32 → (t : Bool) → ltb h (2 ^ 31) ≡ t → to_z w32 h *ℤ pos (2 ^ 32) +ℤ pos l ≡ to_z w64 (h * 2 ^ 32 + l)
join h l bh bl true e = simp (e, lt-ltb (h * 2 ^ 32 + l) (2 ^ 63) (omega (arith, ltb-true h (2 ^ 31) e)))
join h l bh bl false e =
    let m : ℕ = (2 ^ 32 - suc h) * 2 ^ 32 + (2 ^ 32 - 1) in
    let s : suc (2 ^ 32 - suc h) * 2 ^ 32 ≡ suc m = omega arith in
    let d : suc m - suc l ≡ 2 ^ 64 - suc (h * 2 ^ 32 + l) = omega arith in
    simp (e, s, lt-ltb l (suc m) (omega arith), d, le-ltb (h * 2 ^ 32 + l) (2 ^ 63) (omega (arith, ltb-false h (2 ^ 31) e)))

pub unwire_bits : (bs : List ℕ) → length bs ≡ 8 → Bytes bs → unwire bs ≡ to_z w64 (number_of bs)
unfolding unwire
unwire_bits bs e b =
    join (number_of (take 4 bs)) (number_of (drop 4 bs)) (half (take 4 bs) t (take_bytes 4 bs b)) (half (drop 4 bs) d (drop_bytes 4 bs b)) _ refl
    ∙ ap (λ n. to_z w64 n) (ap (λ k. number_of (take 4 bs) * 256 ^ k + number_of (drop 4 bs)) (sym d) ∙ sym (number_of_append (take 4 bs) (drop 4 bs)) ∙ ap number_of (take-append-drop 4 bs))
  where
    t : length (take 4 bs) ≡ 4
    t = length-take-le 4 bs (omega arith)

    d : length (drop 4 bs) ≡ 4
    d = length-drop 4 bs ∙ omega arith

    half : (l : List ℕ) → length l ≡ 4 → Bytes l → number_of l < 2 ^ 32
    half l e b = rw e at (number_of_lt l b)

-- what std reads from eight bytes, signed
pub unwire_read : (bs : List ℕ) → length bs ≡ 8 → Bytes bs → to_z w64 (from_be_bytes w64 bs) ≡ unwire bs
unwire_read bs e b = ap (λ n. to_z w64 n) (be_number_of bs e b) ∙ sym (unwire_bits bs e b)

-- ---- there and back

pub unwire_wire : (z : ℤ) → SFits w64 z → unwire (wire z) ≡ z
unwire_wire z s =
    ap unwire (wire_bits z s)
    ∙ unwire_bits (bytes_of 8 (of_z w64 z)) (bytes_of_length 8 (of_z w64 z)) (bytes_of_bytes 8 (of_z w64 z))
    ∙ ap (λ n. to_z w64 n) (number_of_bytes_of 8 (of_z w64 z) ∙ mod-eq_of_lt (of_z_fits w64 z s).fits)
    ∙ to_z-of_z w64 z s

pub wire_unwire : (bs : List ℕ) → length bs ≡ 8 → Bytes bs → wire (unwire bs) ≡ bs
wire_unwire bs e b =
    ap wire (unwire_bits bs e b)
    ∙ wire_bits (to_z w64 (number_of bs)) (to_z-Fits w64 (number_of bs) fits)
    ∙ ap (λ n. bytes_of 8 n) (of_z-to_z w64 (number_of bs) fits)
    ∙ ap (λ k. bytes_of k (number_of bs)) (sym e)
    ∙ bytes_of_number_of bs b
  where
    fits : Fits w64 (number_of bs)
    fits = record { fits = rw e at (number_of_lt bs b) }

-- SEQUENCENUMBER_UNKNOWN
pub unknown_wire : wire (negsuc 4294967295) ≡ 255 ∷ 255 ∷ 255 ∷ 255 ∷ 0 ∷ 0 ∷ 0 ∷ 0 ∷ []
unfolding wire bytes_of high low
unknown_wire = refl
