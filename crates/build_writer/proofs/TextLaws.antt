-- The texts of numbers and lines, and of lists of them as one text after another.
use Prim.Native.Nat.{ℕ, ◌+◌, ◌-◌, ◌*◌, ◌%◌, ◌<◌, ◌≤◌}
use mathlib.Core.Path.{◌≡◌, refl, sym, ap, ap₂, ◌∙◌}
use mathlib.Core.List.{List, [], ◌∷◌, ◌++◌, map, append_assoc, append-nil}
use mathlib.Core.Option.{Option, some, none}
use native.Mathlib.Omega.{arith}
use borrow.Author.Tests.{lt-ltb, le-ltb, ne_eqb}
use lib.ListN.{get_or}
use Rattle.leftcorner.specs.Table.{E, K, Action, ActionLine}
use Rattle.items.specs.Layout.{length_at, symbol_at}
use Rattle.fixpoint.specs.Flags.{On}
use Rattle.build_states.specs.States.{range, keep_if, keep}
use Rattle.build_book.specs.Built.{line_if, actions_on, actions_of}
use Rattle.text.specs.Digits.{lead, digits}
use Rattle.text.proofs.DigitsLaws.{lead_none}
use Rattle.build_book.specs.Text.{fields, line, entry_text, kernel_text, action_bytes, action_text}
use Rattle.build_writer.specs.MemoryTable.{symbols_in, on?, set_in, cell_in, goto_in, action_in, lines_in}
use Rattle.build_writer.proofs.SinkLaws.{texts}

-- ---- numbers

-- a number of at most three digits, after a comma
pub field_digits : (v : ℕ) → v < 1000 → 44 ∷ (lead 100 v ++ (lead 10 v ++ (48 + v % 10) ∷ [])) ≡ fields (v ∷ [])
unfolding digits
field_digits v h = simp (lead_none 10000 v (omega arith), lead_none 1000 v (omega arith), append-nil)

-- ---- fields

fields_cons : (v : ℕ) (l : List ℕ) → fields (v ∷ []) ++ fields l ≡ fields (v ∷ l)
fields_cons v l = simp append-nil

fields_text : (f : ℕ → ℕ) (l : List ℕ) → texts (λ k. fields (f k ∷ [])) l ≡ fields (map f l)
fields_text f [] = refl
fields_text f (k ∷ l) = ap (λ (x : List ℕ). fields (f k ∷ []) ++ x) (fields_text f l) ∙ fields_cons (f k) (map f l)

pub symbols_text : (items : List ℕ) (i n : ℕ) → n ≡ length_at items i → texts (λ k. fields (symbol_at items i k ∷ [])) (range 0 n) ≡ fields (symbols_in items i)
unfolding symbols_in
symbols_text items i n e = fields_text (symbol_at items i) (range 0 n) ∙ ap (λ (m : ℕ). fields (map (symbol_at items i) (range 0 m))) e

-- one field, three fields before others
pub line_one : (x a : ℕ) (l : List ℕ) → x ∷ (fields (a ∷ []) ++ (fields l ++ 10 ∷ [])) ≡ line x (a ∷ l)
line_one x a l = simp (append-nil, append_assoc)

pub line_three : (x : ℕ) {a b c a' b' c' : ℕ} (l : List ℕ) → a ≡ a' → b ≡ b' → c ≡ c'
    → x ∷ (fields (a ∷ []) ++ (fields (b ∷ []) ++ (fields (c ∷ []) ++ (fields l ++ 10 ∷ [])))) ≡ line x (a' ∷ b' ∷ c' ∷ l)
line_three x l e f g = simp (e, f, g, append-nil, append_assoc)

-- ---- codes

module _ (lookaheads : List ℕ) (l : ℕ) where
  code_keeps : (d : ℕ) (t : Dec (On lookaheads (l * 64 + d))) (σ : List ℕ) → fields (keep_if t d []) ++ fields σ ≡ fields (keep_if t d σ)
  code_keeps d (yes p) σ = fields_cons d σ
  code_keeps d (no f) σ = refl

  pub codes_text : (ds : List ℕ) → texts (λ d. fields (set_in lookaheads l (d ∷ []))) ds ≡ fields (set_in lookaheads l ds)
  unfolding set_in keep
  codes_text [] = refl
  codes_text (d ∷ ds) = ap (λ (x : List ℕ). fields (set_in lookaheads l (d ∷ [])) ++ x) (codes_text ds) ∙ code_keeps d (on? lookaheads (l * 64 + d)) (set_in lookaheads l ds)

  pub code_off : (d : ℕ) → get_or lookaheads (l * 64 + d) 0 ≡ 0 → [] ≡ set_in lookaheads l (d ∷ [])
  unfolding set_in keep
  code_off d e = go (on? lookaheads (l * 64 + d))
    where
      go : (t : Dec (On lookaheads (l * 64 + d))) → [] ≡ keep_if t d []
      go (yes p) = absurd (p.nonzero e)
      go (no f) = refl

  pub code_on : (d : ℕ) → (get_or lookaheads (l * 64 + d) 0 ≡ 0 → ⊥) → d ∷ [] ≡ set_in lookaheads l (d ∷ [])
  unfolding set_in keep
  code_on d f = go (on? lookaheads (l * 64 + d))
    where
      go : (t : Dec (On lookaheads (l * 64 + d))) → d ∷ [] ≡ keep_if t d []
      go (yes p) = refl
      go (no g) = absurd (g (record { nonzero = f }))

-- ---- lines

pub entry_line : (γ : List ℕ) {s s' : ℕ} → s ≡ s' → line 69 (s ∷ γ) ≡ line 69 (s' ∷ γ)
entry_line γ e = ap (λ (s : ℕ). line 69 (s ∷ γ)) e

pub entries_text : (s : ℕ → ℕ) (γ : ℕ → List ℕ) (l : List ℕ) → texts (λ k. line 69 (s k ∷ γ k)) l ≡ entry_text (map (λ k. E (s k) (γ k)) l)
entries_text s γ [] = refl
entries_text s γ (k ∷ l) = ap (λ (x : List ℕ). line 69 (s k ∷ γ k) ++ x) (entries_text s γ l)

pub kernels_text : (q i n : ℕ → ℕ) (σ : ℕ → List ℕ) (l : List ℕ) → texts (λ k. line 75 (q k ∷ i k ∷ n k ∷ σ k)) l ≡ kernel_text (map (λ k. K (q k) (i k) (n k) (σ k)) l)
kernels_text q i n σ [] = refl
kernels_text q i n σ (k ∷ l) = ap (λ (x : List ℕ). line 75 (q k ∷ i k ∷ n k ∷ σ k) ++ x) (kernels_text q i n σ l)

-- a line of a cell, and what stands before others
line_first : (q X : ℕ) (o : Option Action) (l : List ActionLine) → action_text (line_if q X o []) ++ action_text l ≡ action_text (line_if q X o l)
line_first q X none l = refl
line_first q X (some x) l = ap (λ (y : List ℕ). y ++ action_text l) (append-nil (action_bytes q X x))

module _ (cells : ℕ → ℕ → Option Action) where
  pub on_text : (q : ℕ) (xs : List ℕ) (l : List ActionLine) → texts (λ X. action_text (line_if q X (cells q X) [])) xs ++ action_text l ≡ action_text (actions_on cells q xs l)
  on_text q [] l = refl
  on_text q (X ∷ xs) l =
      append_assoc (action_text (line_if q X (cells q X) [])) (texts (λ X. action_text (line_if q X (cells q X) [])) xs) (action_text l)
      ∙ (ap (λ (x : List ℕ). action_text (line_if q X (cells q X) []) ++ x) (on_text q xs l) ∙ line_first q X (cells q X) (actions_on cells q xs l))

  pub on_alone : (q : ℕ) (xs : List ℕ) → texts (λ X. action_text (line_if q X (cells q X) [])) xs ≡ action_text (actions_on cells q xs [])
  on_alone q xs = sym (append-nil (texts (λ X. action_text (line_if q X (cells q X) [])) xs)) ∙ on_text q xs []

module _ (kinds values gotos : List ℕ) where
  abbrev cells : ℕ → ℕ → Option Action
  cells = action_in kinds values gotos

  pub state_text : (q n : ℕ) → n ≡ 128 → texts (λ X. action_text (line_if q X (cells q X) [])) (range 0 n) ≡ action_text (lines_in kinds values gotos q)
  unfolding lines_in
  state_text q n e = on_alone cells q (range 0 n) ∙ ap (λ (k : ℕ). action_text (actions_on cells q (range 0 k) [])) e

  pub actions_text : (qs : List ℕ) → texts (λ q. action_text (lines_in kinds values gotos q)) qs ≡ action_text (actions_of cells qs)
  unfolding lines_in
  actions_text [] = refl
  actions_text (q ∷ qs) =
      ap₂ (λ (x y : List ℕ). x ++ y) (sym (on_alone cells q (range 0 128))) (actions_text qs) ∙ on_text cells q (range 0 128) (actions_of cells qs)

-- ---- cells

module _ (q X kind v : ℕ) where
  abbrev cell_text : List ℕ
  cell_text = action_text (line_if q X (cell_in kind v) [])

  pub cell_shift : kind ≡ 1 → line 83 (q ∷ X ∷ v ∷ []) ≡ cell_text
  unfolding cell_in
  cell_shift e = simp e (sym (append-nil (line 83 (q ∷ X ∷ v ∷ []))))

  pub cell_announce : kind ≡ 2 → line 65 (q ∷ X ∷ v ∷ []) ≡ cell_text
  unfolding cell_in
  cell_announce e = simp e (sym (append-nil (line 65 (q ∷ X ∷ v ∷ []))))

  pub cell_pop : kind ≡ 3 → line 80 (q ∷ X ∷ (v + 1) ∷ []) ≡ cell_text
  unfolding cell_in
  cell_pop e = simp e (sym (append-nil (line 80 (q ∷ X ∷ (v + 1) ∷ []))))

  pub cell_empty : (kind ≡ 1 → ⊥) → (kind ≡ 2 → ⊥) → (kind ≡ 3 → ⊥) → [] ≡ cell_text
  unfolding cell_in
  cell_empty a b c = simp (ne_eqb kind 1 a, ne_eqb kind 2 b, ne_eqb kind 3 c)

module _ (q X next : ℕ) where
  abbrev goto_text : List ℕ
  goto_text = action_text (line_if q X (goto_in next) [])

  pub goto_none : next ≡ 0 → [] ≡ goto_text
  unfolding goto_in
  goto_none e = simp e

  pub goto_some : (next ≡ 0 → ⊥) → line 78 (q ∷ X ∷ next ∷ []) ≡ goto_text
  unfolding goto_in
  goto_some f = simp (ne_eqb next 0 f) (sym (append-nil (line 78 (q ∷ X ∷ next ∷ []))))

module _ (kinds values gotos : List ℕ) (q X x : ℕ) (e : x ≡ X) where
  abbrev symbol_text : List ℕ
  symbol_text = action_text (line_if q X (action_in kinds values gotos q X) [])

  pub action_cell : (v : ℕ) → x < 64 → v ≡ get_or values (q * 64 + x) 0 → action_text (line_if q x (cell_in (get_or kinds (q * 64 + x) 0) v) []) ≡ symbol_text
  unfolding action_in
  action_cell v h k = let l : X < 64 = omega (arith, e, h) in simp (lt-ltb X 64 l, k, e)

  pub action_goto : (v : ℕ) → 64 ≤ x → v ≡ get_or gotos (q * 64 + (x - 64)) 0 → action_text (line_if q x (goto_in v) []) ≡ symbol_text
  unfolding action_in
  action_goto v h k = let l : 64 ≤ X = omega (arith, e, h) in simp (le-ltb X 64 l, k, e)
