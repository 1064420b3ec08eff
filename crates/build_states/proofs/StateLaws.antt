-- The states: entries first, each once; every move has its target among them, and each is an entry or the target of an earlier one.
use Prim.Native.Nat.{ℕ, zero, suc, ◌+◌, ◌*◌, ◌≤◌, ◌<◌}
use native.Mathlib.Omega.{arith}
use native.Mathlib.Decide.{dec_le}
use mathlib.Core.Path.{◌≡◌, refl, sym, ap, subst, ◌∙◌}
use mathlib.Core.Logic.{◌⊎◌, inl, inr}
use mathlib.Core.List.{List, [], ◌∷◌}
use lib.ListN.{length, get_or}
use Rattle.language.specs.Grammar.{Grammar}
use Rattle.language.specs.Sentence.{In, here}
use Rattle.language.proofs.Member.{in_cons}
use Rattle.language.specs.Rising.{RisingFrom}
use Rattle.leftcorner.specs.Construction.{MovedBy}
use Rattle.build_states.specs.Strings.{entry_strings}
use Rattle.build_states.proofs.Distinct.{Distinct, kept, longer}
use Rattle.build_states.specs.States.{Kernel, find, alone, move, explore, entry_kernels, states, kernel_of, goto}
use Rattle.build_states.proofs.Discovery.{Target, Found, states_found, find_is, find_at}
use Rattle.build_states.proofs.Limits.{Limits}
use Rattle.build_states.proofs.MoveLaws.{move_rising, in_move, moved_symbol}

module _ (g : Grammar) where
  kernels_in : (a : ℕ) (l : List (List ℕ)) (k : Kernel) → In k (entry_kernels g a l) → (m : ℕ) × (a ≤ m) × (k ≡ m * 16 ∷ [])
  kernels_in a [] k m = elim m [ ]
  kernels_in a (γ ∷ l) k m = go (in_cons m) (kernels_in (suc a) l k)
    where
      go : (k ≡ a * 16 ∷ []) ⊎ In k (entry_kernels g (suc a) l) → (In k (entry_kernels g (suc a) l) → (m : ℕ) × (suc a ≤ m) × (k ≡ m * 16 ∷ []))
          → (m : ℕ) × (a ≤ m) × (k ≡ m * 16 ∷ [])
      go (inl e) rec = (a, omega arith, e)
      go (inr n) rec = let r = rec n in (r.0, omega (arith, r.1), r.2)

  kernels_distinct : (a : ℕ) (l : List (List ℕ)) → Distinct (entry_kernels g a l)
  kernels_distinct a [] = tt
  kernels_distinct a (γ ∷ l) =
      (λ m. let r = kernels_in (suc a) l (a * 16 ∷ []) m in let e = r.2 in let z : a * 16 ≡ r.0 * 16 = cc in omega (arith, z, r.1), kernels_distinct (suc a) l)

  pub kernels_length : (a : ℕ) (l : List (List ℕ)) → length (entry_kernels g a l) ≡ length l
  kernels_length a [] = refl
  kernels_length a (γ ∷ l) = ap suc (kernels_length (suc a) l)

  pub kernel_at : (a : ℕ) (l : List (List ℕ)) (j : ℕ) → j < length l → get_or (entry_kernels g a l) j [] ≡ (a + j) * 16 ∷ []
  kernel_at a [] j h = absurd (omega (arith, h))
  kernel_at a (γ ∷ l) zero h = let z : a ≡ a + 0 = omega arith in ap (λ (n : ℕ). n * 16 ∷ []) z
  kernel_at a (γ ∷ l) (suc j) h = let z : suc a + j ≡ a + suc j = omega arith in kernel_at (suc a) l j (omega (arith, h)) ∙ ap (λ (n : ℕ). n * 16 ∷ []) z

  -- the kernel sets that the discovery starts from
  abbrev pub first_kernels : List Kernel
  first_kernels = entry_kernels g (suc (length g.rules)) (entry_strings g)

  pub states_are : states g ≡ explore (move g) 255 0 first_kernels
  unfolding states
  states_are = refl

  pub found : Found (move g) first_kernels (length (states g)) (states g)
  unfolding states
  found = states_found (move g) first_kernels (kernels_distinct (suc (length g.rules)) (entry_strings g))

  pub states_distinct : Distinct (states g)
  states_distinct = found.distinct

  pub more_states : length (entry_strings g) ≤ length (states g)
  more_states = omega (arith, longer found.from, kernels_length (suc (length g.rules)) (entry_strings g))

  -- "Entry k's state [..] has the one kernel item r+k, dot 0"
  pub entry_kernel : (k : ℕ) → 1 ≤ k → k ≤ length (entry_strings g) → kernel_of g k ≡ (length g.rules + k) * 16 ∷ []
  entry_kernel zero l h = absurd (omega (arith, l))
  entry_kernel (suc j) l h =
      let z : suc (length g.rules) + j ≡ length g.rules + suc j = omega arith in
      kept found.from j (omega (arith, h, kernels_length (suc (length g.rules)) (entry_strings g)))
      ∙ kernel_at (suc (length g.rules)) (entry_strings g) j h ∙ ap (λ (n : ℕ). n * 16 ∷ []) z

  -- a state with the moved items is the one that is gone to
  pub goto_at : (q X s : ℕ) → s < length (states g) → get_or (states g) s [] ≡ move g (kernel_of g q) X → goto g q X ≡ suc s
  unfolding goto
  goto_at q X s l e = ap suc (ap (λ (k : Kernel). find k (states g)) (sym e) ∙ find_at (states g) s states_distinct l)

  -- a state after the entries is the target of an earlier one
  pub record Reached (q : ℕ) : Type 0 where
    pub from : ℕ
    pub symbol : ℕ
    pub low : 1 ≤ from
    pub earlier : from < q
    pub kernel : kernel_of g q ≡ move g (kernel_of g from) symbol
    pub some_item : (x : ℕ) × In x (move g (kernel_of g from) symbol)
    pub back : goto g from symbol ≡ q

  some_in : (k : Kernel) → (k ≡ [] → ⊥) → (x : ℕ) × In x k
  some_in [] f = absurd (f refl)
  some_in (x ∷ k) f = (x, here)

  pub reached : (q : ℕ) → length (entry_strings g) < q → q ≤ length (states g) → Reached q
  reached zero l h = absurd (omega (arith, l))
  reached (suc p) l h =
      let c = found.origin p (omega (arith, l, kernels_length (suc (length g.rules)) (entry_strings g))) h in
      record {
        from = suc c.from;
        symbol = c.symbol;
        low = omega arith;
        earlier = omega (arith, c.earlier);
        kernel = c.is;
        some_item = some_in (move g (kernel_of g (suc c.from)) c.symbol) (λ e. c.filled (c.is ∙ e));
        back = goto_at (suc c.from) c.symbol p h c.is;
      }

  -- every state is an entry's, or reached
  pub entry_or : (q : ℕ) → q ≤ length (states g) → (q ≤ length (entry_strings g)) ⊎ Reached q
  entry_or q h = go (dec_le q (length (entry_strings g)))
    where
      go : Dec (q ≤ length (entry_strings g)) → (q ≤ length (entry_strings g)) ⊎ Reached q
      go (yes l) = inl l
      go (no f) = inr (reached q (omega (arith, f)) h)

  -- "Its K lines rise by state, item, dot"
  pub kernels_rising : (q : ℕ) → 1 ≤ q → q ≤ length (states g) → RisingFrom 0 (kernel_of g q)
  kernels_rising q l h = go (entry_or q h)
    where
      go : (q ≤ length (entry_strings g)) ⊎ Reached q → RisingFrom 0 (kernel_of g q)
      go (inl e) = subst (RisingFrom 0) (sym (entry_kernel q l e)) (omega arith, tt)
      go (inr c) = subst (RisingFrom 0) (sym c.kernel) (move_rising g (kernel_of g c.from) c.symbol)

  -- a move of state q goes to a state whose kernel set is exactly the moved items
  pub record Goto (q X : ℕ) : Type 0 where
    pub low : 1 ≤ goto g q X
    pub high : goto g q X ≤ length (states g)
    pub kernel : kernel_of g (goto g q X) ≡ move g (kernel_of g q) X

  module _ (L : Limits g) where
    pub goes_to_lem : (q X i n : ℕ) → 1 ≤ q → q ≤ length (states g) → MovedBy g (alone g (kernel_of g q)) 1 X i n → Goto q X
    unfolding goto
    goes_to_lem zero X i n l h m = absurd (omega (arith, l))
    goes_to_lem (suc p) X i n l h m = go (found.closed (record { states = L.few_states; lines = L.few_lines }) p h X (moved_symbol g L.formed L.few_entries (kernel_of g (suc p)) m))
      where
        v : In (i * 16 + n) (move g (kernel_of g (suc p)) X)
        v = in_move g L.formed L.few_entries (kernel_of g (suc p)) m

        go : Target (move g (kernel_of g (suc p)) X) (states g) → Goto (suc p) X
        go (inl e) = elim (subst (λ (k : Kernel). In (i * 16 + n) k) e v) [ ]
        go (inr u) = let f = find_is u in record { low = omega arith; high = f.0; kernel = f.1 }
