-- Laws of a call list run: the lines of a text, and what is left of it.
use Prim.Native.Nat.{ℕ, ◌+◌, ◌-◌, ◌≤◌, ◌<◌, min}
use mathlib.Core.Path.{◌≡◌, refl, sym, ap, ◌∙◌, subst}
use mathlib.Core.Bool.{true, false, cond}
use mathlib.Core.List.{List, [], ◌∷◌, ◌++◌, append_assoc, append-nil}
use Rattle.std.specs.Prelude.{Option, None, Some, unwrap_or, option_map}
use Rattle.std.specs.Borrow.{Bor}
use Rattle.std.proofs.lemmas.Option.{none-some}
use native.Mathlib.Omega.{arith}
use lib.Dec.{eqb}
use lib.ListN.{length, take, drop, length-append, length-take, length-drop}
use lib.Seq.{take_all, drop-drop}
use borrow.Rule.Slice.PartMut.{put_mid}
use Rattle.decimal.specs.Print.{put}
use Rattle.decimal.proofs.Putting.{put_none, put_next, put_part}
use Rattle.fields.specs.Fields.{lengthen}
use Rattle.fields.specs.Front.{ends, line_in}
use Rattle.fields.specs.Left.{behind_newline}
use Rattle.call_line.specs.Line.{line_of}
use Rattle.call_line.specs.declared.line.Line.{Line}
use Rattle.calls.specs.Run.{Calls, begun, afresh, run_if, run_line, lines_of, run_lines, run_text}
use Rattle.calls.specs.Runs.{Stands, Ran, ran_text}
use Rattle.calls.proofs.Standing.{every_stands}

-- ---- the lines of a text

abbrev pub lines_or : Option (List ℕ) → List (List ℕ)
lines_or None = []
lines_or (Some s) = lines_of s

-- what is left, or nothing
pub shown_or : (o : Option (Bor (List ℕ))) (d : Bor (List ℕ)) → d.now ≡ [] → (unwrap_or o d).now ≡ unwrap_or (option_map (λ s. s.now) o) []
shown_or None d e = e
shown_or (Some s) d e = refl

lines_behind : (b : Option (List ℕ)) → lines_of (unwrap_or b []) ≡ lines_or b
unfolding lines_of
lines_behind None = refl
lines_behind (Some s) = refl

-- the first, and those behind its newline
first_line : (b : ℕ) (s : List ℕ)
    → lines_of (b ∷ s) ≡ line_in true (b ∷ s) ∷ lines_or (behind_newline (drop (length (line_in true (b ∷ s))) (b ∷ s)))
unfolding lines_of lengthen line_in ends behind_newline
first_line b [] = elim (eqb b 10)
    as (λ t. cond t ([] ∷ []) (lengthen b []) ≡ cond t [] (b ∷ []) ∷ lines_or (behind_newline (drop (length (cond t [] (b ∷ []))) (b ∷ [])))) [ true ↦ refl | false ↦ refl ]
first_line b (a ∷ s) = elim (eqb b 10)
    as (λ t. cond t ([] ∷ lines_of (a ∷ s)) (lengthen b (lines_of (a ∷ s)))
    ≡ cond t [] (b ∷ line_in true (a ∷ s)) ∷ lines_or (behind_newline (drop (length (cond t [] (b ∷ line_in true (a ∷ s)))) (b ∷ a ∷ s))))
    [ true ↦ refl | false ↦ ap (λ ls. lengthen b ls) (first_line a s) ]

pub lines_split : (s : List ℕ) (r : Option (List ℕ)) → 0 < length s → r ≡ behind_newline (drop (length (line_in true s)) s) → lines_of s ≡ line_in true s ∷ lines_or r
lines_split [] r h e = absurd (omega arith)
lines_split (b ∷ s) r h e = first_line b s ∙ ap (λ o. line_in true (b ∷ s) ∷ lines_or o) (sym e)

behind_short : (s : List ℕ) (r : List ℕ) → Some r ≡ behind_newline s → length r < length s
unfolding behind_newline
behind_short [] r e = absurd (none-some r (sym e))
behind_short (b ∷ s) r e = let q : r ≡ s = cc in omega (arith, ap length q)

pub rest_shorter : (s : List ℕ) (n : ℕ) (b : Option (List ℕ)) → 0 < length s → b ≡ behind_newline (drop n s) → length (unwrap_or b []) < length s
rest_shorter s n None h e = h
rest_shorter s n (Some r) h e = omega (arith, behind_short (drop n s) r e, length-drop n s)

-- ---- the turns of the list: what is gathered and what is left, put now, make all

pub record Left (text all : List ℕ) (d : Calls) (out : List ℕ) (at : ℕ) (answers rest : List ℕ) : Type 0 where
  pub calls : Calls
  pub stands : Stands calls d
  pub room : at ≤ length out
  pub makes : put out at (answers ++ run_lines calls (lines_of rest)) ≡ ran_text text all

pub left_first : {text out answers : List ℕ} {d : Calls} → d ≡ afresh 1000000000 → answers ≡ [] → Left text out d out 0 answers text
unfolding ran_text run_text begun
left_first {text} {out} {d = d} e a = record {
  calls = d;
  stands = every_stands d;
  room = omega arith;
  makes = ap (λ l. put out 0 (l ++ run_lines d (lines_of text))) a ∙ ap (λ c. put out 0 (run_lines c (lines_of text))) e;
}

pub left_none : {text all out answers rest : List ℕ} {d : Calls} {at : ℕ} → length rest ≤ 0 → Left text all d out at answers rest → put out at answers ≡ ran_text text all
unfolding lines_of run_lines
left_none {out = out} {answers} {rest = []} {at = at} h l = ap (λ s. put out at s) (sym (append-nil answers)) ∙ l.makes
left_none {rest = b ∷ s} h l = absurd (omega arith)

-- ---- answers that are put

-- as many bytes as there is room for
pub answers_put : (out : List ℕ) (at k n : ℕ) (answers part : List ℕ) → n ≡ min (length answers) (length out - at) → k ≡ n → part ≡ take n answers
    → ◌≡◌ {A = ℕ × List ℕ} (at + n, put_mid at k out part) (put out at answers)
answers_put out at k n answers part e f g =
    ap (λ (o : List ℕ). (at + n, o)) (rw (f, g, drop-drop n at out) (sym (append_assoc (take at out) (take n answers) (drop (at + n) out))))
    ∙ put_part out at answers n e

pub put_room : (out : List ℕ) (at : ℕ) (s : List ℕ) → at ≤ length out → (put out at s).0 ≤ length (put out at s).1
unfolding put
put_room out at s h = simp (length-append, length-take, length-drop) (omega arith)

-- what is gathered afresh is put behind them
pub put_afresh : (out out' : List ℕ) (at r : ℕ) (answers none s : List ℕ) → ◌≡◌ {A = ℕ × List ℕ} (r, out') (put out at answers) → none ≡ [] → put out' r (none ++ s) ≡ put out at (answers ++ s)
put_afresh out out' at r answers none s p e =
    ap (λ (l : List ℕ). put out' r (l ++ s)) e ∙ ap (λ (w : ℕ × List ℕ). put w.1 w.0 s) p ∙ put_next out at answers s

-- ---- a line's answer and its newline

whole_answer : (n : ℕ) {l : Option Line} {d d' : Calls} {answers said then : List ℕ} (c : Calls) → length answers + 3930 ≤ n → Stands c d → Ran n l d d' answers said
    → then ≡ take n (said ++ (10 ∷ [])) → then ≡ answers ++ ((run_if c l).1 ++ (10 ∷ []))
whole_answer n {l} {answers = answers} {said} c h s x e =
    let t = (run_if c l).1 in
    let fits : length (answers ++ t) ≤ n = omega (arith, x.short c s, h, length-append answers t) in
    let p : said ≡ answers ++ t = x.text c s ∙ take_all n (answers ++ t) fits in
    e ∙ ap (λ (u : List ℕ). take n (u ++ (10 ∷ []))) p
    ∙ take_all n ((answers ++ t) ++ (10 ∷ [])) (omega (arith, x.short c s, h, length-append answers t, length-append (answers ++ t) (10 ∷ [])))
    ∙ append_assoc answers t (10 ∷ [])

module _ {text all out rest answers : List ℕ} {d : Calls} {at : ℕ} (l : Left text all d out at answers rest) (h : 0 < length rest)
    {n r : ℕ} {out' kept said then : List ℕ} {d' : Calls} {line : Option Line} (k : (s : List ℕ) → put out' r (kept ++ s) ≡ put out at (answers ++ s))
    (m : length kept + 3930 ≤ n) (w : r ≤ length out') (q : line ≡ line_of (line_in true rest)) (x : Ran n line d d' kept said) (e : then ≡ take n (said ++ (10 ∷ [])))
    (b : Option (List ℕ)) (z : b ≡ behind_newline (drop (length (line_in true rest)) rest))
  where
    pub left_next : (s : List ℕ) → s ≡ unwrap_or b [] → Left text all d' out' r then s
    unfolding run_lines run_line
    left_next s f =
        let c = l.calls in
        let a = run_if c line in
        let t = run_lines a.0 (lines_or b) in
        record {
          calls = a.0;
          stands = x.state c l.stands;
          room = w;
          makes =
              ap (λ u. put out' r (then ++ run_lines a.0 u)) (ap lines_of f ∙ lines_behind b)
              ∙ ap (λ (u : List ℕ). put out' r (u ++ t)) (whole_answer n c m l.stands x e ∙ sym (append_assoc kept a.1 (10 ∷ [])))
              ∙ ap (λ (u : List ℕ). put out' r u) (append_assoc (kept ++ a.1) (10 ∷ []) t ∙ append_assoc kept a.1 (10 ∷ t))
              ∙ k (a.1 ++ (10 ∷ t))
              ∙ ap (λ o. put out at (answers ++ ((run_if c o).1 ++ (10 ∷ run_lines (run_if c o).0 (lines_or b))))) q
              ∙ ap (λ (u : List (List ℕ)). put out at (answers ++ run_lines c u)) (sym (lines_split rest b h z))
              ∙ l.makes;
        }
