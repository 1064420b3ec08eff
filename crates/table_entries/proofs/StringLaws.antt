-- Strings compared, and entries found by their strings.
use Prim.Native.Nat.{ℕ, zero, suc, ◌+◌, ◌-◌, ◌≤◌, ◌<◌}
use mathlib.Core.Path.{◌≡◌, refl, sym, ap, ap₂, subst, ◌∙◌}
use mathlib.Core.Logic.{◌≢◌}
use mathlib.Core.List.{List}
use mathlib.Core.Bool.{Bool, true, false}
use mathlib.Core.Option.{some}
use native.Mathlib.Omega.{arith}
use lib.ListN.{length, get_or, take, drop, length-drop, drop_of_length-le}
use lib.Seq.{get_or-drop}
use Rattle.std.proofs.lemmas.List.{drop-take}
use Rattle.language.specs.Grammar.{at}
use Rattle.leftcorner.specs.Table.{EntryLine, E, same_string, entry_from}
use Rattle.items.specs.Layout.{EntryIn, length_at, symbol_at}
use Rattle.language.proofs.GrammarLaws.{at_below}
use Rattle.item_groups.specs.Groups.{PartIs}
use Rattle.item_groups.proofs.StringLaws.{same_long}
use Rattle.item_groups.proofs.UseLaws.{drop_at}
use Rattle.table_lines.specs.Block.{Numbers}
use Rattle.table_lines.proofs.HeldLaws.{numbers_take}
use Rattle.table_entries.specs.Memory.{Rows}

-- the symbols of a line's numbers
pub symbol_at_lem : (ns : List ℕ) (k : ℕ) → get_or (drop 1 ns) k 0 ≡ get_or ns (k + 1) 0
symbol_at_lem ns k = get_or-drop 1 ns k 0 ∙ ap (λ (n : ℕ). get_or ns n 0) (swap k)
  where
    swap : (k : ℕ) → 1 + k ≡ k + 1
    swap k = omega arith

-- ---- the entries looked at one after the other
module _ (l : List EntryLine) (δ : List ℕ) (k : ℕ) {s : ℕ} {γ : List ℕ} (e : at l k ≡ some (E s γ)) where
  pub found_here : same_string γ δ ≡ true → entry_from (suc k) (drop k l) δ ≡ suc k
  found_here h = ap (λ (m : List EntryLine). entry_from (suc k) m δ) (drop_at l k e) ∙ simp h

  pub found_later : same_string γ δ ≡ false → entry_from (suc k) (drop k l) δ ≡ entry_from (suc (suc k)) (drop (suc k) l) δ
  found_later h = ap (λ (m : List EntryLine). entry_from (suc k) m δ) (drop_at l k e) ∙ simp h

pub found_none : (l : List EntryLine) (δ : List ℕ) (k : ℕ) → length l ≤ k → entry_from (suc k) (drop k l) δ ≡ 0
found_none l δ k h = ap (λ (m : List EntryLine). entry_from (suc k) m δ) (drop_of_length-le l h)

-- ---- a row of the item table against the symbols of a line
module _ {m : List ℕ} {i : ℕ} {γ : List ℕ} (row : EntryIn m i γ) where
  pub row_long : {ns : List ℕ} {count : ℕ} {numbers : List ℕ} → Numbers ns count numbers → length_at m i + 1 ≢ count → 1 ≤ count → false ≡ same_string γ (drop 1 ns)
  row_long {ns = ns} h f l = sym (same_long γ (drop 1 ns) (λ e. f (omega (arith, e, row.length_is, h.count_is, length-drop 1 ns))))

  pub row_part : {n : ℕ} → n ≡ length_at m i → n ≤ 15 → PartIs m i 0 n γ
  row_part {n} e short = record { width = omega (arith, e, row.length_is); symbols = λ j l. ap (symbol_at m i) (zero_plus j) ∙ row.symbol_is j (omega (arith, l, short)) }
    where
      zero_plus : (j : ℕ) → 0 + j ≡ j
      zero_plus j = omega arith

-- the numbers after the first, as a part of all and of the first `count`
pub after_first : (numbers : List ℕ) (count : ℕ) → take (count - 1) (drop 1 numbers) ≡ drop 1 (take count numbers)
after_first numbers zero = refl
after_first numbers (suc c) = sym (ap (λ (n : ℕ). drop 1 (take n numbers)) (let z : suc c ≡ 1 + (suc c - 1) = omega arith in z) ∙ drop-take 1 (suc c - 1) numbers)

-- the symbols as a part of the line's numbers
pub numbers_part : {ns : List ℕ} {count : ℕ} {numbers : List ℕ} → Numbers ns count numbers → count ≤ length numbers → take (count - 1) (drop 1 numbers) ≡ drop 1 ns
numbers_part {ns} {count} {numbers} h l = after_first numbers count ∙ ap (drop 1) (numbers_take h l)

-- no entry before entry k has the string
abbrev pub Unfound : List EntryLine → List ℕ → ℕ → Type 0
Unfound l δ k = (done : ℕ) → k ≡ suc done → entry_from 1 l δ ≡ entry_from k (drop done l) δ

pub unfound_first : (l : List EntryLine) (δ : List ℕ) → Unfound l δ 1
unfound_first l δ done e = ap (λ (n : ℕ). entry_from 1 (drop n l) δ) (let z : 0 ≡ done = omega (arith, e) in z)

before : (k : ℕ) → 1 ≤ k → (done : ℕ) × (k ≡ suc done)
before zero a = absurd (omega (arith, a))
before (suc done) a = (done, refl)

pub unfound_all : (l : List EntryLine) (δ : List ℕ) (k : ℕ) → 1 ≤ k → length l < k → Unfound l δ k → 0 ≡ entry_from 1 l δ
unfound_all l δ k a b u =
    let p = before k a in
    sym (u p.0 p.1 ∙ (ap (λ (n : ℕ). entry_from n (drop p.0 l) δ) p.1 ∙ found_none l δ p.0 (omega (arith, p.1, b))))

-- ---- entry k found, or passed
module _ {m : List ℕ} {rules : ℕ} {l : List EntryLine} (rows : Rows m rules l) (δ : List ℕ) (k : ℕ) (a : 1 ≤ k) (h : k ≤ length l) {b : Bool}
    (same : (γ : List ℕ) → EntryIn m (rules + k) γ → b ≡ same_string γ δ) (u : Unfound l δ k) where
  -- the line of entry k, with its row
  record Looked (done : ℕ) : Type 0 where
    state : ℕ
    string : List ℕ
    line_is : at l done ≡ some (E state string)
    compared : b ≡ same_string string δ

  looked : (done : ℕ) → k ≡ suc done → Looked done
  looked done q = go (at_below l done (omega (arith, q, h)))
    where
      go : (x : EntryLine) × (at l done ≡ some x) → Looked done
      go (E s γ, e) = record
          { state = s; string = γ; line_is = e; compared = same γ (subst (λ (n : ℕ). EntryIn m n γ) (let z : suc (rules + done) ≡ rules + k = omega (arith, q) in z) (rows.row_in done e)) }

  from_here : (done : ℕ) → k ≡ suc done → entry_from 1 l δ ≡ entry_from (suc done) (drop done l) δ
  from_here done q = u done q ∙ ap (λ (n : ℕ). entry_from n (drop done l) δ) q

  pub entry_found : b ≡ true → k ≡ entry_from 1 l δ
  entry_found e =
      let p = before k a in
      let w = looked p.0 p.1 in
      p.1 ∙ sym (from_here p.0 p.1 ∙ found_here l δ p.0 w.line_is (sym w.compared ∙ e))

  pub entry_passed : b ≡ false → Unfound l δ (k + 1)
  entry_passed e next q =
      let p = before k a in
      let w = looked p.0 p.1 in
      from_here p.0 p.1
      ∙ (found_later l δ p.0 w.line_is (sym w.compared ∙ e)
      ∙ ap₂ (λ (n j : ℕ). entry_from n (drop j l) δ) (let z : suc (suc p.0) ≡ k + 1 = omega (arith, p.1) in z) (let z : suc p.0 ≡ next = omega (arith, p.1, q) in z))
