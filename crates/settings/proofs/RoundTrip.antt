-- Packing, saving and reading return equal values; the fields that every version has are shown by one proof over the version.
use Rattle.std.specs.Prelude.{Option, None, Some, unwrap_or}
use Prim.{Unit, tt, ⊥}
use Prim.Native.Nat.{ℕ, ◌/◌, ◌≤◌, ◌<◌}
use mathlib.Core.Path.{◌≡◌, refl, sym, ap, ◌∙◌}
use mathlib.Core.Bool.{Bool, true, false, cond, not}
use mathlib.Core.List.{List, [], ◌++◌, map, append-nil}
use native.Mathlib.Nat.{mod-eq_of_lt}
use native.Mathlib.Omega.{arith}
use borrow.Author.Tests.{le-leb, le-ltb, ne_eqb}
use lib.Dec.{leb, ltb}
use lib.ListN.{length, take, drop, length-append, get_or-append}
use lib.Seq.{take_at, take_all}
use Rattle.laws.specs.Answer.{Answer, refused, answered}
use Rattle.laws.specs.Bytes.{number_of}
use Rattle.laws.proofs.Bytes.{bytes_of_length, bytes_of_bytes, number_of_bytes_of}
use Rattle.settings.specs.Layout as L
use Rattle.settings.specs.Setting.{value_of, version_by, version_of, fits_at, fits, packed_at, packed, pack, setting_of, setting_in, version_in, known, good_length}
use Rattle.settings.specs.Store.{saved, save, read_at}
use Rattle.settings.specs.declared.setting.Setting.{Setting}
use Rattle.settings.proofs.Fields.{byte_bits_lem, joined_lt, parted_joined}
use Rattle.settings.proofs.Shown.{size_width, size_six, version_field}

-- ---- a setting's bytes at version v, whatever is behind them

-- what a setting's bytes of version v are to show: the four shared values, and the lifespan from version 2 on
unfoldable pub shown_at : ℕ → Setting → Setting
shown_at v x = record {
  timeout = x.timeout;
  coherent = x.coherent;
  ordered = x.ordered;
  separation = x.separation;
  lifespan = cond (leb 2 v) (Some (unwrap_or x.lifespan 0)) None;
}

module _ (v : ℕ) (x : Setting) (f : fits_at v x ≡ true) where
  packed_size : length (packed_at v x) ≡ L.size v
  packed_size = bytes_of_length (L.size v) (L.joined (λ f. value_of v x f) (L.layout v))

  packed_number : number_of (packed_at v x) ≡ L.joined (λ f. value_of v x f) (L.layout v)
  packed_number =
      number_of_bytes_of (L.size v) (L.joined (λ f. value_of v x f) (L.layout v))
      ∙ mod-eq_of_lt (rw (← byte_bits_lem (L.size v), size_width v) (joined_lt (λ f. value_of v x f) (L.layout v) f))

  -- every field of the layout comes back
  fields_own : L.parted (L.layout v) (number_of (packed_at v x)) ≡ map (λ p. (p.0, value_of v x p.0)) (L.layout v)
  fields_own = ap (λ n. L.parted (L.layout v) n) packed_number ∙ parted_joined (λ f. value_of v x f) (L.layout v) f

  fields_back : (rest : List ℕ) → L.parted (L.layout v) (number_of (take (L.size v) (packed_at v x ++ rest))) ≡ map (λ p. (p.0, value_of v x p.0)) (L.layout v)
  fields_back rest = ap (λ bs. L.parted (L.layout v) (number_of bs)) (take_at (packed_at v x) rest (L.size v) packed_size) ∙ fields_own

  lifespan_back : (t : Bool) → leb 2 v ≡ t
      → L.lookup L.lifespan (map (λ p. (p.0, value_of v x p.0)) (L.layout v)) ≡ cond t (Some (unwrap_or x.lifespan 0)) None
  lifespan_back true e = rw e
  lifespan_back false e = rw e

  pub shows : (rest : List ℕ) → setting_in v (packed_at v x ++ rest) ≡ shown_at v x
  unfolding shown_at
  shows rest = ap setting_of (fields_back rest) ∙ rw (lifespan_back (leb 2 v) refl)

  version_own : version_in (packed_at v x) ≡ v
  version_own =
      sym (version_field (packed_at v x) (bytes_of_bytes (L.size v) (L.joined (λ f. value_of v x f) (L.layout v))) v (omega (arith, packed_size)))
      ∙ ap (λ bs. unwrap_or (L.lookup L.version (L.parted (L.layout v) (number_of bs))) 0) (take_all (L.size v) (packed_at v x) (omega (arith, packed_size)))
      ∙ ap (λ l. unwrap_or (L.lookup L.version l) 0) fields_own

  pub version_shown : (rest : List ℕ) → version_in (packed_at v x ++ rest) ≡ v
  version_shown rest =
      let s : 0 < length (packed_at v x) = omega (arith, packed_size, size_six v) in
      ap (λ b. b / 16) (get_or-append (packed_at v x) rest 0 0 s) ∙ version_own

  module _ (rest : List ℕ) (l : List Setting) (k : known v ≡ true) (g : good_length v (length (packed_at v x ++ rest)) ≡ true) where
    -- bytes of version 1 to 7 and of its length are accepted, and the values kept
    pub saves : save (packed_at v x ++ rest) l ≡ (answered tt, saved (shown_at v x) l)
    saves =
        let s : length (packed_at v x ++ rest) ≡ 0 → ⊥ = λ e. omega (arith, length-append (packed_at v x) rest, packed_size, size_six v) in
        rw (ne_eqb (length (packed_at v x ++ rest)) 0 s, version_shown rest, k, g, shows rest)

    pub save_read : read_at 0 (save (packed_at v x ++ rest) l).1 ≡ answered (shown_at v x)
    save_read = ap (λ (r : Answer (Unit {0}) × List Setting). read_at 0 r.1) saves

-- ---- what is packed, saved and read is the same

own_lifespan : (l : Option ℕ) → cond (leb 2 (version_by l)) (Some (unwrap_or l 0)) None ≡ l
own_lifespan (Some n) = refl
own_lifespan None = refl

own_shown : (x : Setting) → shown_at (version_of x) x ≡ x
unfolding shown_at
own_shown x = rw (own_lifespan x.lifespan)

own_known : (l : Option ℕ) → known (version_by l) ≡ true
own_known (Some n) = refl
own_known None = refl

own_length : (l : Option ℕ) → good_length (version_by l) (L.size (version_by l)) ≡ true
own_length (Some n) = refl
own_length None = refl

-- the bytes of values that fit are saved as these values
pub saves_own : (x : Setting) (l : List Setting) → fits x ≡ true → save (packed x) l ≡ (answered tt, saved x l)
saves_own x l f =
    let v = version_by x.lifespan in
    let n : packed_at v x ++ [] ≡ packed_at v x = append-nil (packed_at v x) in
    let g : good_length v (length (packed_at v x ++ [])) ≡ true = ap (λ bs. good_length v (length bs)) n ∙ ap (λ k. good_length v k) (packed_size v x f) ∙ own_length x.lifespan in
    ap (λ bs. save bs l) (sym n)
    ∙ saves v x f [] l (own_known x.lifespan) g
    ∙ ap (λ y. (answered tt, saved y l)) (own_shown x)

-- values that fit are packed into every list that is long enough
pub packs_own : (x : Setting) (out : List ℕ) → fits x ≡ true → length (packed x) ≤ length out
    → pack x out ≡ (answered (length (packed x)), packed x ++ drop (length (packed x)) out)
packs_own x out f h = rw (f, le-ltb (length out) (length (packed x)) h)

answer_by : (t u : Bool) (k n : ℕ) (o p out : List ℕ)
    → ◌≡◌ {A = Answer ℕ × List ℕ} (cond (not t) (refused 15, o) (cond u (refused 5, o) (answered k, p))) (answered n, out)
    → (t ≡ true) × (n ≡ k) × (out ≡ p)
answer_by true false k n o p out e =
    let d : ◌≡◌ {A = Answer ℕ} (answered k) (answered n) = ap (λ (r : Answer ℕ × List ℕ). r.0) e in
    (refl, cc, sym (ap (λ (r : Answer ℕ × List ℕ). r.1) e))
answer_by true true k n o p out e =
    let d : ◌≡◌ {A = Answer ℕ} (refused 5) (answered n) = ap (λ (r : Answer ℕ × List ℕ). r.0) e in
    (cc, cc, cc)
answer_by false u k n o p out e =
    let d : ◌≡◌ {A = Answer ℕ} (refused 15) (answered n) = ap (λ (r : Answer ℕ × List ℕ). r.0) e in
    (cc, cc, cc)

-- the bytes that an answered packing wrote are saved as the values packed
pub pack_save : (x : Setting) (out out' : List ℕ) (n : ℕ) (l : List Setting) → pack x out ≡ (answered n, out') → save (take n out') l ≡ (answered tt, saved x l)
pack_save x out out' n l e =
    let k = length (packed x) in
    let a = answer_by (fits x) (ltb (length out) k) k n out (packed x ++ drop k out) out' e in
    ap (λ m. save (take m out') l) a.1
    ∙ ap (λ o. save (take k o) l) a.2
    ∙ ap (λ bs. save bs l) (take_at (packed x) (drop k out) k refl)
    ∙ saves_own x l a.0

-- and read as the newest
pub pack_save_read : (x : Setting) (out out' : List ℕ) (n : ℕ) (l : List Setting) → pack x out ≡ (answered n, out')
    → read_at 0 (save (take n out') l).1 ≡ answered x
pack_save_read x out out' n l e = ap (λ (r : Answer (Unit {0}) × List Setting). read_at 0 r.1) (pack_save x out out' n l e)

-- ---- versions 3 to 7

-- what has a lifespan is shown whole from version 2 on
pub whole_shown : (v : ℕ) (x : Setting) (n : ℕ) → 2 ≤ v → x.lifespan ≡ Some n → shown_at v x ≡ x
unfolding shown_at
whole_shown v x n h e =
    let t : cond (leb 2 v) (Some (unwrap_or x.lifespan 0)) None ≡ x.lifespan = rw (le-leb 2 v h) (ap (λ l. Some (unwrap_or l 0)) e ∙ sym e) in
    rw t

-- of any bytes they show what version 2 shows
pub later_shows : (v : ℕ) (bs : List ℕ) → 2 ≤ v → setting_in v bs ≡ setting_in 2 bs
later_shows v bs h = rw (le-leb 2 v h)

-- and the bytes behind the fields are not read
pub rest_unread : (v : ℕ) (bs rest : List ℕ) → length bs ≡ L.size v → setting_in v (bs ++ rest) ≡ setting_in v bs
rest_unread v bs rest h =
    ap (λ l. setting_of (L.parted (L.layout v) (number_of l)))
    (take_at bs rest (L.size v) h ∙ sym (take_all (L.size v) bs (omega arith)))
