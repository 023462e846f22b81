-- What bytes of a version show: the fields that every version has are in the first six bytes, by one proof for every layout behind them.
use Rattle.std.specs.Prelude.{Option, None, Some, unwrap_or}
use Prim.Native.Nat.{ℕ, ◌+◌, ◌*◌, ◌/◌, ◌%◌, ◌^◌, ◌≤◌}
use mathlib.Core.Path.{◌≡◌, refl, sym, ap, ◌∙◌}
use mathlib.Core.Bool.{Bool, true, false, cond, ◌&&◌}
use mathlib.Core.List.{List, [], ◌∷◌, ◌++◌}
use native.Mathlib.Nat.{div-one, div-div-eq-div-mul}
use native.Mathlib.Omega.{arith}
use borrow.Author.Tests.{leb-true, eqb-true}
use lib.Dec.{eqb, leb}
use lib.ListN.{length, take, drop, get_or}
use Rattle.laws.specs.Bytes.{number_of}
use Rattle.laws.proofs.Bytes.{Bytes}
use Rattle.laws.proofs.Lists.{and_left}
use Rattle.settings.specs.Layout as L
use Rattle.settings.specs.Setting.{setting_in, setting_of, version_in, good_length}
use Rattle.settings.specs.declared.setting.Setting.{Setting}
use Rattle.settings.proofs.Fields.{byte_bits_lem, parted_append}
use Rattle.settings.proofs.Reading.{front, back, one_byte, two_bytes}

-- ---- the sizes

later_size : (v : ℕ) (t : Bool) → leb 2 v ≡ t → (L.size v ≡ 6 + cond t 2 0) × (L.width (L.later v) ≡ cond t 2 0 * 8)
later_size v true e = (rw e, rw e)
later_size v false e = (rw e, rw e)

size_by : (v : ℕ) (t : Bool) → leb 2 v ≡ t → L.size v * 8 ≡ L.width (L.layout v)
size_by v true e = rw e
size_by v false e = rw e

-- whole bytes
pub size_width : (v : ℕ) → L.size v * 8 ≡ L.width (L.layout v)
size_width v = size_by v (leb 2 v) refl

pub size_six : (v : ℕ) → 6 ≤ L.size v
size_six v = omega (arith, (later_size v (leb 2 v) refl).0)

long_by : (v n : ℕ) (t : Bool) → cond t (eqb n (L.size v)) (leb (L.size v) n && leb n 32) ≡ true → L.size v ≤ n
long_by v n true h = omega (arith, eqb-true n (L.size v) h)
long_by v n false h = leb-true (L.size v) n (and_left (leb (L.size v) n) (leb n 32) h)

good_long : (v n : ℕ) → good_length v n ≡ true → L.size v ≤ n
good_long v n h = long_by v n (leb v 2) h

-- ---- the fields

-- the fields of the first six bytes
unfoldable six : List ℕ → List (L.Field × ℕ)
six bs =
    (L.version, get_or bs 0 0 / 16)
    ∷ (L.timeout, number_of (take 2 bs) % 4096)
    ∷ (L.coherent, get_or bs 2 0)
    ∷ (L.ordered, get_or bs 3 0)
    ∷ (L.separation, number_of (take 2 (drop 4 bs)))
    ∷ []

unfoldable pub shown_lifespan : Bool → List ℕ → Option ℕ
shown_lifespan true bs = Some (number_of (take 2 (drop 6 bs)))
shown_lifespan false bs = None

-- the setting, byte by byte, with a lifespan or without
unfoldable pub shown : Bool → List ℕ → Setting
shown t bs = record {
  timeout = number_of (take 2 bs) % 4096;
  coherent = get_or bs 2 0;
  ordered = get_or bs 3 0;
  separation = number_of (take 2 (drop 4 bs));
  lifespan = shown_lifespan t bs;
}

module _ (bs : List ℕ) (b : Bytes bs) where
  -- the first k bytes show the fields of k bytes, whatever is behind them
  pub front_fields : (l m : L.Layout) (k e : ℕ) → L.width m ≡ e * 8 → k + e ≤ length bs
      → L.parted (l ++ m) (number_of (take (k + e) bs)) ≡ L.parted l (number_of (take k bs)) ++ L.parted m (number_of (take (k + e) bs))
  front_fields l m k e w h =
      let n = number_of (take (k + e) bs) in
      parted_append l m n
      ∙ ap (λ d. L.parted l (n / d) ++ L.parted m n) (ap (λ i. 2 ^ i) w ∙ byte_bits_lem e)
      ∙ ap (λ d. L.parted l d ++ L.parted m n) (front bs k e h b)

  module _ (h : 6 ≤ length bs) where
    first_field : number_of (take 6 bs) / 2 ^ 44 % 2 ^ 4 ≡ get_or bs 0 0 / 16
    first_field =
        let d = div-div-eq-div-mul (number_of (take 6 bs)) (2 ^ 32) (2 ^ 12) in
        let x = b 0 in
        let y = b 1 in
        sym (ap (λ n. n % 2 ^ 4) d)
        ∙ ap (λ n. n / 2 ^ 12 % 2 ^ 4) (front bs 2 4 (omega arith) b ∙ two_bytes bs 0 (omega arith))
        ∙ omega arith

    coherent_field : number_of (take 6 bs) / 2 ^ 24 % 2 ^ 8 ≡ get_or bs 2 0
    coherent_field = ap (λ n. n % 2 ^ 8) (front bs 3 3 (omega arith) b) ∙ back bs 2 1 (omega arith) b ∙ one_byte bs 2 (omega arith)

    ordered_field : number_of (take 6 bs) / 2 ^ 16 % 2 ^ 8 ≡ get_or bs 3 0
    ordered_field = ap (λ n. n % 2 ^ 8) (front bs 4 2 (omega arith) b) ∙ back bs 3 1 (omega arith) b ∙ one_byte bs 3 (omega arith)

    separation_field : number_of (take 6 bs) / 2 ^ 0 % 2 ^ 16 ≡ number_of (take 2 (drop 4 bs))
    separation_field = ap (λ n. n % 2 ^ 16) (div-one (number_of (take 6 bs))) ∙ back bs 4 2 (omega arith) b

    six_fields : L.parted L.shared (number_of (take 6 bs)) ≡ six bs
    unfolding six
    six_fields = rw (first_field, coherent_field, ordered_field, separation_field, front bs 2 4 (omega arith) b)

  module _ (v : ℕ) where
    -- the fields of version v, by the bytes
    fields_by : (t : Bool) → leb 2 v ≡ t → L.size v ≤ length bs
        → L.parted (L.layout v) (number_of (take (L.size v) bs)) ≡ six bs ++ L.parted (L.later v) (number_of (take (6 + cond t 2 0) bs))
    fields_by t e l =
        let s = later_size v t e in
        let h : 6 + cond t 2 0 ≤ length bs = omega (arith, s.0) in
        ap (λ k. L.parted (L.shared ++ L.later v) (number_of (take k bs))) s.0
        ∙ front_fields L.shared (L.later v) 6 (cond t 2 0) s.1 h
        ∙ ap (λ l. l ++ L.parted (L.later v) (number_of (take (6 + cond t 2 0) bs))) (six_fields (omega arith))

    with_later : (t : Bool) → leb 2 v ≡ t → 6 + cond t 2 0 ≤ length bs
        → setting_of (six bs ++ L.parted (L.later v) (number_of (take (6 + cond t 2 0) bs))) ≡ shown t bs
    unfolding six shown shown_lifespan
    with_later true e h = rw (e, div-one (number_of (take 8 bs)), back bs 6 2 h b)
    with_later false e h = rw e

    shown_by : (t : Bool) → leb 2 v ≡ t → L.size v ≤ length bs → setting_in v bs ≡ shown t bs
    shown_by t e l =
        let h : 6 + cond t 2 0 ≤ length bs = omega (arith, (later_size v t e).0) in
        ap setting_of (fields_by t e l) ∙ with_later t e h

    -- the first four bits are the field `version` of every layout
    pub version_field : L.size v ≤ length bs
        → unwrap_or (L.lookup L.version (L.parted (L.layout v) (number_of (take (L.size v) bs)))) 0 ≡ version_in bs
    unfolding six
    version_field l = ap (λ f. unwrap_or (L.lookup L.version f) 0) (fields_by (leb 2 v) refl l)

    pub setting_shown : good_length v (length bs) ≡ true → setting_in v bs ≡ shown (leb 2 v) bs
    setting_shown g = shown_by (leb 2 v) refl (good_long v (length bs) g)
