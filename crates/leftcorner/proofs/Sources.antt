-- Sources and item numbers: what an item's number says of its symbols, of its recognition point and of the moves of its dot.
use Prim.Native.Nat.{ℕ, zero, suc, ◌-◌, ◌≤◌, ◌<◌}
use native.Mathlib.Omega.{arith}
use mathlib.Core.Path.{◌≡◌, refl, sym, ap, ◌∙◌, subst}
use mathlib.Core.Bool.{Bool, false, cond}
use mathlib.Core.List.{List, [], ◌∷◌, ◌++◌, append-nil}
use mathlib.Core.Option.{Option, some, none}
use lib.Dec.{leb}
use lib.ListN.{length, drop}
use borrow.Author.Tests.{le-leb, lt-leb}
use Rattle.language.specs.Grammar.{Grammar, Rule, right, concat, at, rule_at}
use Rattle.language.specs.Sentence.{In}
use Rattle.leftcorner.specs.Table.{E, Table, entry_at, string_of, right_of, mark_of, rule_count, symbols_of, recognition_point, Goes}
use Rattle.leftcorner.specs.Construction.{entry_item, EntryAt, KernelAt}
use Rattle.leftcorner.proofs.Adequate.{Source, rule, entry, before_of, after_of, track, behind}
use Rattle.leftcorner.proofs.ReadOff.{clash, string_at}

-- ---- cutting a string at the dot

drop_cut : (k : ℕ) (a b : List ℕ) (X : ℕ) (β : List ℕ) → k < length a → drop k (a ++ b) ≡ X ∷ β → (α : List ℕ) × (drop k a ≡ X ∷ α) × (β ≡ α ++ b)
drop_cut zero [] b X β l e = absurd (omega arith)
drop_cut zero (x ∷ a) b X β l e = let f : x ≡ X = cc in let h : a ++ b ≡ β = cc in (a, ap (λ (z : ℕ). z ∷ a) f, sym h)
drop_cut (suc k) [] b X β l e = absurd (omega arith)
drop_cut (suc k) (x ∷ a) b X β l e = drop_cut k a b X β (omega arith) e

drop_join : (k : ℕ) (a b : List ℕ) (X : ℕ) (α : List ℕ) → drop k a ≡ X ∷ α → (k < length a) × (drop k (a ++ b) ≡ X ∷ (α ++ b))
drop_join zero [] b X α e = clash cc
drop_join zero (x ∷ a) b X α e = (omega arith, ap (λ (l : List ℕ). l ++ b) e)
drop_join (suc k) [] b X α e = clash cc
drop_join (suc k) (x ∷ a) b X α e = let r = drop_join k a b X α e in (omega (arith, r.0), r.1)

pub at_low : {A : Type 0} (l : List A) (i : ℕ) (x : A) → at l i ≡ some x → suc i ≤ length l
at_low [] i x e = clash cc
at_low (y ∷ l) zero x e = omega arith
at_low (y ∷ l) (suc i) x e = omega (arith, at_low l i x e)

module _ (g : Grammar) (t : Table) where
  pub rule_low : (i : ℕ) (r : Rule) → rule_at g i ≡ some r → i ≤ rule_count g t
  rule_low zero r e = omega arith
  rule_low (suc i) r e = at_low g.rules i r e

  pub entry_high : (e s : ℕ) (γ : List ℕ) → EntryAt g t e s γ → 1 ≤ e
  entry_high zero s γ h = clash cc
  entry_high (suc e) s γ h = omega arith

  -- "Item i up to r is rule i; item r+k is the string of entry line k."
  pub data IsItem : Source → ℕ → Type 0 where
    rule_item : (i : ℕ) (r : Rule) → rule_at g i ≡ some r → IsItem (rule i) i
    entry_item_lem : (e s : ℕ) (γ : List ℕ) → EntryAt g t e s γ → IsItem (entry e) (entry_item g t e)

  -- d is among the codes of a kernel line of state q, for the item of ι with dot k
  pub record KernelCode (q : ℕ) (ι : Source) (k d : ℕ) : Type 0 where
    pub item : ℕ
    pub codes : List ℕ
    pub is : IsItem ι item
    pub line : KernelAt g t q item k codes
    pub code : In d codes

  apart : (i e s : ℕ) (r : Rule) (γ : List ℕ) → rule_at g i ≡ some r → EntryAt g t e s γ → i ≡ entry_item g t e → ⊥
  apart i e s r γ h k f = omega (arith, rule_low i r h, entry_high e s γ k, f)

  pub one_source : {ι κ : Source} {i j : ℕ} → IsItem ι i → IsItem κ j → i ≡ j → ι ≡ κ
  one_source (rule_item i r h) (rule_item j v k) e = ap rule e
  one_source (rule_item i r h) (entry_item_lem f s γ k) e = absurd (apart i f s r γ h k e)
  one_source (entry_item_lem f s γ k) (rule_item i r h) e = absurd (apart i f s r γ h k (sym e))
  one_source (entry_item_lem f s γ k) (entry_item_lem n u δ h) e = let m : f ≡ n = omega (arith, e) in ap entry m

  pub rule_number : {i j : ℕ} → IsItem (rule i) j → j ≡ i
  rule_number (rule_item i r h) = refl

  pub entry_number : {e j : ℕ} → IsItem (entry e) j → (j ≡ entry_item g t e) × ((s : ℕ) × EntryAt g t e s (string_at t e))
  entry_number (entry_item_lem e s γ h) = (refl, (s, h ∙ ap (λ (l : List ℕ). some (E s l)) (sym (ap string_of h))))

  -- ---- what an item's number says

  pub symbols_rule : (i : ℕ) (r : Rule) → rule_at g i ≡ some r → symbols_of g t i ≡ right r
  symbols_rule i r e =
      ap (λ (b : Bool). cond b (right_of (rule_at g i)) (string_of (entry_at t (i - rule_count g t)))) (le-leb i (rule_count g t) (rule_low i r e)) ∙ ap right_of e

  pub point_rule : (i : ℕ) (r : Rule) → rule_at g i ≡ some r → recognition_point g t i ≡ some (length r.before)
  point_rule i r e = ap (λ (b : Bool). cond b (mark_of (rule_at g i)) none) (le-leb i (rule_count g t) (rule_low i r e)) ∙ ap mark_of e

  past : (e s : ℕ) (γ : List ℕ) → EntryAt g t e s γ → leb (entry_item g t e) (rule_count g t) ≡ false
  past e s γ h = lt-leb (entry_item g t e) (rule_count g t) (omega (arith, entry_high e s γ h))

  pub symbols_entry : (e s : ℕ) (γ : List ℕ) → EntryAt g t e s γ → symbols_of g t (entry_item g t e) ≡ string_at t e
  symbols_entry e s γ h =
      ap (λ (b : Bool). cond b (right_of (rule_at g (entry_item g t e))) (string_of (entry_at t (entry_item g t e - rule_count g t)))) (past e s γ h)
      ∙ ap (string_at t) (let f : entry_item g t e - rule_count g t ≡ e = omega arith in f)

  pub point_entry : (e s : ℕ) (γ : List ℕ) → EntryAt g t e s γ → recognition_point g t (entry_item g t e) ≡ none
  point_entry e s γ h = ap (λ (b : Bool). cond b (mark_of (rule_at g (entry_item g t e))) none) (past e s γ h)

  -- ---- the moves of the dot, by number and by source

  pub goes_of : {ι : Source} {i : ℕ} (k X : ℕ) (α : List ℕ) → IsItem ι i → drop k (track g (string_at t) ι) ≡ X ∷ α → Goes g t i k X (α ++ behind g (string_at t) ι)
  goes_of k X α (rule_item i r e) h =
      let j = drop_join k r.before (concat r.groups) X α (subst (λ (o : Option Rule). drop k (before_of o) ≡ X ∷ α) e h) in
      record {
        before = ap (drop k) (symbols_rule i r e) ∙ j.1 ∙ ap (λ (o : Option Rule). X ∷ (α ++ after_of o)) (sym e);
        unmarked = λ m. let f : some (length r.before) ≡ some k = sym (point_rule i r e) ∙ m in let l : length r.before ≡ k = cc in omega (arith, j.0, l);
      }
  goes_of k X α (entry_item_lem e s γ a) h = record {
    before = ap (drop k) (symbols_entry e s γ a) ∙ h ∙ ap (λ (l : List ℕ). X ∷ l) (sym (append-nil α));
    unmarked = λ m. let f : none ≡ some k = sym (point_entry e s γ a) ∙ m in clash cc;
  }

  -- where the dot is not past the recognition point
  pub moves_at : {ι : Source} {i : ℕ} (k X : ℕ) (β : List ℕ) → IsItem ι i → ((m : ℕ) → recognition_point g t i ≡ some m → k ≤ m) → Goes g t i k X β
      → (α : List ℕ) × (drop k (track g (string_at t) ι) ≡ X ∷ α) × (β ≡ α ++ behind g (string_at t) ι)
  moves_at k X β (rule_item i r e) low h =
      let p = point_rule i r e in
      let n : k ≡ length r.before → ⊥ = λ m. h.unmarked (p ∙ ap (λ (j : ℕ). some j) (sym m)) in
      let l : k < length r.before = omega (arith, low (length r.before) p, n) in
      let c = drop_cut k r.before (concat r.groups) X β l (sym (ap (drop k) (symbols_rule i r e)) ∙ h.before) in
      (c.0, ap (λ (o : Option Rule). drop k (before_of o)) e ∙ c.1, c.2 ∙ ap (λ (o : Option Rule). c.0 ++ after_of o) (sym e))
  moves_at k X β (entry_item_lem e s γ a) low h = (β, sym (ap (drop k) (symbols_entry e s γ a)) ∙ h.before, sym (append-nil β))
