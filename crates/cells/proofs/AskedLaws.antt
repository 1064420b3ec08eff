-- What the items of a state ask in memory is what the construction asks.
use Prim.Native.Nat.{ℕ, suc, ◌-◌, ◌≤◌, ◌<◌}
use mathlib.Core.Path.{◌≡◌, refl, sym, ap, subst, subst₂, ◌∙◌}
use mathlib.Core.Logic.{◌⊎◌, inl, inr}
use mathlib.Core.Bool.{Bool, true, cond, ◌&&◌}
use mathlib.Core.List.{List}
use mathlib.Core.Option.{some}
use native.Mathlib.Decide.{ℕ_discrete}
use native.Mathlib.Omega.{arith}
use borrow.Author.Tests.{le-leb}
use lib.Dec.{leb}
use lib.ListN.{length, get_or, drop, replicate}
use lib.Seq.{drop-append_seam}
use Rattle.language.specs.Grammar.{Grammar, Rule, rule_at, concat, IsTerminal, IsNonterminal}
use Rattle.language.proofs.GrammarLaws.{rule_range}
use Rattle.language.specs.Sentence.{In, here}
use Rattle.language.proofs.Member.{in_drop}
use Rattle.leftcorner.specs.Table.{Table, Action, S, A, P, symbols_of, string_of, Goes}
use Rattle.leftcorner.specs.Construction.{entry_item, EntryAt, Has, MovedBy, moved, Carries, Asked, to_move, to_announce, to_pop, CellsAgree}
use Rattle.leftcorner.proofs.Sources.{symbols_rule, symbols_entry, entry_high}
use Rattle.items.specs.Layout.{length_at, mark_at}
use Rattle.fixpoint.specs.Flags.{On, Off, Decides}
use Rattle.fixpoint.proofs.PassLaws.{none_on, set_on}
use Rattle.memory.specs.Memory.{item_at, dot_at, pop_value}
use Rattle.memory.specs.Held.{HoldsTable}
use Rattle.analysis.specs.FirstBy.{FirstBy, first_low}
use Rattle.analysis.specs.Rests.{rest_at}
use Rattle.closure.specs.Expansion.{HasBy, of_kernel, of_rule, has_by, HoldsClosure}
use Rattle.closure.specs.InMemory.{DeclaredItem}
use Rattle.closure.proofs.ItemLaws.{item_held, line_at}
use Rattle.moves.specs.Flags.{HoldsMoves}
use Rattle.moves.proofs.RowLaws.{row_of}
use Rattle.item_first.specs.Rows.{RowOf}
use Rattle.item_first.specs.Rows as rows
use Rattle.item_first.proofs.FirstLaws.{at_zero}
use Rattle.item_first.proofs.CarryLaws.{row_declared, code_low, row_carries, carries_row}
use Rattle.cell_demands.specs.Demands.{Demand, Differs, Met, Asks, CodeAsks}
use Rattle.cells.specs.Demands.{ItemAsks, announces, pops, LinesAsk, RulesAsk, demand_of, HoldsAsked, Conflict, HoldsConflicts}

-- a count that is right
pub pop_value_lem : (n : ℕ) → n ≤ 15 → pop_value (suc n) ≡ n
pop_value_lem n l =
    ap (λ (b : Bool). cond (leb 1 (suc n) && b) (suc n - 1) 255) (le-leb (suc n) 255 (omega arith))
    ∙ ap (λ (b : Bool). cond (b && true) (suc n - 1) 255) (le-leb 1 (suc n) (omega arith))
    ∙ (let z : suc n - 1 ≡ n = omega arith in z)

-- ---- the actions that can be asked
pub data Askable : Action → Type 0 where
  a_shift : Askable (S 0)
  an_announce : (i : ℕ) → i ≤ 127 → Askable (A i)
  a_pop : (n : ℕ) → n ≤ 15 → Askable (P (suc n))

pub same_action : {x y : Action} → Askable x → Askable y → demand_of x ≡ demand_of y → x ≡ y
same_action a_shift a_shift e = refl
same_action a_shift (an_announce i l) e = absurd (omega (arith, e))
same_action a_shift (a_pop n l) e = absurd (omega (arith, e))
same_action (an_announce i l) a_shift e = absurd (omega (arith, e))
same_action (an_announce i l) (an_announce j m) e = ap A (let z : i ≡ j = omega (arith, e) in z)
same_action (an_announce i l) (a_pop n m) e = absurd (omega (arith, e))
same_action (a_pop n l) a_shift e = absurd (omega (arith, e))
same_action (a_pop n l) (an_announce i m) e = absurd (omega (arith, e))
same_action (a_pop n l) (a_pop k m) e = ap (λ (x : ℕ). P (suc x)) (let z : n ≡ k = omega (arith, e, pop_value_lem n l, pop_value_lem k m) in z)

pub some_demand : {x : Action} → Askable x → demand_of x ≡ 0 → ⊥
some_demand a_shift e = omega (arith, e)
some_demand (an_announce i l) e = omega (arith, e)
some_demand (a_pop n l) e = omega (arith, e)

-- a code that is named shows that one cell would hold two different actions
pub refutes_conflict : {g : Grammar} {t : Table} {F : List ℕ → ℕ → ℕ → Type 0} {q c : ℕ} {asked others : List ℕ}
    → HoldsConflicts g t F q asked others → c < 64 → On others c → CellsAgree g t F q → ⊥
refutes_conflict {c = c} C l on u = let k = C.only c l on in k.differ (u.one c k.first k.second k.first_asked k.second_asked)

module _ (g : Grammar) (t : Table) {items entries kernels lookaheads kinds values gotos : List ℕ} {rules strings lines : ℕ}
    (H : HoldsTable g t items entries kernels lookaheads kinds values gotos rules strings lines) where
  -- ---- symbols and strings
  symbol_kind : {i k X : ℕ} {β : List ℕ} → DeclaredItem g t i → Goes g t i k X β → IsTerminal g X ⊎ IsNonterminal g X
  symbol_kind {i} {k} {X} {β} d go = kind d (in_drop k (symbols_of g t i) (subst (In X) (sym go.before) here))
    where
      kind : DeclaredItem g t i → In X (symbols_of g t i) → IsTerminal g X ⊎ IsNonterminal g X
      kind (inl (r, e)) m = (H.formed.formed i e).declared X (subst (In X) (symbols_rule g t i r e) m)
      kind (inr (j, s, γ, ei, e)) m =
          H.fits.string_declared j s γ e X (subst (In X) (symbols_entry g t j s γ e ∙ ap string_of e) (subst (λ (n : ℕ). In X (symbols_of g t n)) ei m))

  has_declared : {q i k : ℕ} → Has g t q i k → DeclaredItem g t i
  has_declared h = go (has_by g t h)
    where
      go : {q i k : ℕ} → HasBy g t q i k → DeclaredItem g t i
      go {q} {i} (of_kernel {k = k} {σ = σ} m) = H.fits.form.item_declared q i k σ m
      go (of_rule {r = r} e x) = inl (r, e)

  pub moved_kind : {q X i n : ℕ} → MovedBy g t q X i n → IsTerminal g X ⊎ IsNonterminal g X
  moved_kind (moved h go) = symbol_kind (has_declared h) go

  short_row : {present follow from : List ℕ} {q i k start : ℕ} → RowOf items kernels lookaheads present follow rules lines q i k from start → k ≤ 15
  short_row {q = q} (rows.of_line l low e) =
      let r = line_at g t H.holds_kernels H.line_count (record { within = low; state = e; item = refl; dot = refl }) in
      let d = H.fits.form.item_declared q (item_at kernels l) (dot_at kernels l) r.0 r.1 in
      let w = row_of g t H d in
      omega (arith, H.fits.dot_within q (item_at kernels l) (dot_at kernels l) r.0 r.1, ap length w.string_is, w.short)
  short_row (rows.of_rule i a b p) = omega arith

  -- the rest of a rule at its recognition point
  pub rest_groups : (i : ℕ) {r : Rule} → rule_at g i ≡ some r → rest_at items i (length r.before) ≡ concat r.groups
  rest_groups i {r} e =
      let w = H.holds_items.rule_row i e in
      sym ((item_held items g t H.holds_items i (inl (r, e)) (omega (arith, w.length_is, (H.formed.formed i e).short))).symbols (length r.before))
      ∙ (ap (drop (length r.before)) (symbols_rule g t i r e) ∙ drop-append_seam r.before (concat r.groups))

  at_point : {i k : ℕ} → DeclaredItem g t i → k ≤ 15 → mark_at items i ≡ k → (r : Rule) × (rule_at g i ≡ some r) × (length r.before ≡ k)
  at_point {i} (inl (r, e)) l m = (r, e, sym (H.holds_items.rule_row i e).mark_is ∙ m)
  at_point {k = k} (inr (j, s, γ, ei, e)) l m =
      absurd (omega (arith, l, m, subst (λ (n : ℕ). mark_at items n ≡ 255) (sym ei) (H.holds_items.entry_row j s e).mark_is))

  finished : {i k : ℕ} → DeclaredItem g t i → rules < i → length_at items i ≡ k
      → (j : ℕ) × (s : ℕ) × (γ : List ℕ) × (i ≡ entry_item g t j) × EntryAt g t j s γ × (length γ ≡ k)
  finished {i} (inl (r, e)) l m = absurd (omega (arith, l, (rule_range g i e).1, H.rule_count))
  finished {i} {k} (inr (j, s, γ, ei, e)) l m =
      (j, s, γ, ei, e, sym (H.holds_items.entry_row j s e).length_is ∙ subst (λ (n : ℕ). length_at items n ≡ k) ei m)

  module _ {codes : ℕ} (nul fst : List ℕ) (count : codes ≡ suc g.terminals) {q : ℕ} where
    pub askable : {X : ℕ} {x : Action} → Asked g t (FirstBy codes nul fst) q X x → Askable x
    askable (to_move m) = a_shift
    askable (to_announce i e h f) = an_announce i (omega (arith, (rule_range g i e).1, H.formed.few_rules))
    askable (to_pop k {s = s} {γ = γ} e h) = a_pop (length γ) (H.fits.string_short k s γ e)

    -- only moves ask anything of a nonterminal's cell
    pub asked_low : {X : ℕ} {x : Action} → Asked g t (FirstBy codes nul fst) q X x → (X < codes) ⊎ (IsNonterminal g X × (x ≡ S 0))
    asked_low (to_move m) = go (moved_kind m)
      where
        go : {X : ℕ} → IsTerminal g X ⊎ IsNonterminal g X → (X < codes) ⊎ (IsNonterminal g X × (S 0 ≡ S 0))
        go (inl k) = inl (omega (arith, k.1))
        go (inr k) = inr (k, refl)
    asked_low (to_announce i e h f) = inl (first_low codes nul fst (code_low g t H nul fst count h) f)
    asked_low (to_pop k e h) = inl (code_low g t H nul fst count h)

    -- cells agree where what is asked of each code is one number
    pub agree_below : ((X : ℕ) (x y : Action) → X < codes → X < 64 → Asked g t (FirstBy codes nul fst) q X x → Asked g t (FirstBy codes nul fst) q X y → demand_of x ≡ demand_of y)
        → CellsAgree g t (FirstBy codes nul fst) q
    agree_below same = record { one = λ X x y h k. go X x y h k (asked_low h) (asked_low k) }
      where
        low : (X : ℕ) (x y : Action) → X < codes → Asked g t (FirstBy codes nul fst) q X x → Asked g t (FirstBy codes nul fst) q X y → x ≡ y
        low X x y l h k = same_action (askable h) (askable k) (same X x y l (omega (arith, H.formed.few_terminals)) h k)

        go : (X : ℕ) (x y : Action) → Asked g t (FirstBy codes nul fst) q X x → Asked g t (FirstBy codes nul fst) q X y
            → (X < codes) ⊎ (IsNonterminal g X × (x ≡ S 0)) → (X < codes) ⊎ (IsNonterminal g X × (y ≡ S 0)) → x ≡ y
        go X x y h k (inl l) u = low X x y l h k
        go X x y h k (inr p) (inl l) = low X x y l h k
        go X x y h k (inr p) (inr r) = p.1 ∙ sym r.1

    module _ {present follow moves : List ℕ} (C : HoldsClosure g t (FirstBy codes nul fst) q present follow) (M : HoldsMoves g t q moves) where
      -- what is asked in memory
      abbrev pub StateAsks : ℕ → ℕ → Type 0
      StateAsks c v = CodeAsks moves 0 1 codes 256 c v ⊎ (LinesAsk items nul fst kernels lookaheads rules lines codes q c v ⊎ RulesAsk items nul fst present follow rules codes c v)

      item_asked : {i k start c v : ℕ} {from : List ℕ} → RowOf items kernels lookaheads present follow rules lines q i k from start
          → ItemAsks items nul fst from rules codes i k start c v → (x : Action) × Asked g t (FirstBy codes nul fst) q c x × (demand_of x ≡ v)
      item_asked {i} {k} {c = c} R (announces m f e) =
          let p = at_point (row_declared g t H R) (short_row R) m in
          let h = row_carries g t H nul fst count C R f.low f.on in (
            A i,
            to_announce i p.1 (subst (λ (n : ℕ). Carries g t (FirstBy codes nul fst) q i n f.code) (sym p.2) h)
                (subst (λ (β : List ℕ). FirstBy codes nul fst β f.code c) (ap (rest_at items i) (sym p.2) ∙ rest_groups i p.1) f.first),
            sym e,
          )
      item_asked {k = k} {c = c} R (pops n hi len low on e) =
          let p = finished (row_declared g t H R) hi len in
          let h = row_carries g t H nul fst count C R low on in (
            P (suc (length p.2)),
            to_pop p.0 p.4 (subst₂ (λ (j m : ℕ). Carries g t (FirstBy codes nul fst) q j m c) p.3 (sym p.5) h),
            omega (arith, pop_value_lem (length p.2) (H.fits.string_short p.0 p.1 p.2 p.4), p.5, e),
          )

      pub state_asked : {c v : ℕ} → StateAsks c v → (x : Action) × Asked g t (FirstBy codes nul fst) q c x × (demand_of x ≡ v)
      state_asked {c} (inl w) = let m = M.only c w.above (subst (On moves) (at_zero c) w.on) in (S 0, to_move m.2, sym w.is)
      state_asked (inr (inl w)) = item_asked (rows.of_line w.line w.low w.state) w.asks
      state_asked (inr (inr w)) = item_asked (rows.of_rule w.rule w.above (omega (arith, w.below)) w.present_rule) w.asks

      row_asks : {i k start c v : ℕ} {from : List ℕ} → RowOf items kernels lookaheads present follow rules lines q i k from start
          → ItemAsks items nul fst from rules codes i k start c v → StateAsks c v
      row_asks (rows.of_line l low e) w = inr (inl (record { line = l; low = low; state = e; asks = w }))
      row_asks (rows.of_rule i a b p) w = inr (inr (record { rule = i; above = a; below = omega arith; present_rule = p; asks = w }))

      pub asked_state : {c : ℕ} {x : Action} → c < 64 → Asked g t (FirstBy codes nul fst) q c x → StateAsks c (demand_of x)
      asked_state {c} l (to_move {i = i} {n = n} m) = go (moved_kind m)
        where
          go : IsTerminal g c ⊎ IsNonterminal g c → StateAsks c 256
          go (inl k) = inl (record { above = k.0; below = omega (arith, k.1); on = subst (On moves) (sym (at_zero c)) (M.every c i n m); is = refl })
          go (inr k) = absurd (omega (arith, k.0))
      asked_state {c} l (to_announce i {d = d} {r = r} e h f) =
          let w = carries_row g t H nul fst count C h in
          row_asks w.row (announces (H.holds_items.rule_row i e).mark_is (record {
            code = d;
            low = w.low;
            on = w.on;
            first = subst (λ (β : List ℕ). FirstBy codes nul fst β d c) (sym (rest_groups i e)) f;
          }) refl)
      asked_state {c} l (to_pop k {s = s} {γ = γ} e h) =
          let w = carries_row g t H nul fst count C h in
          let z = H.holds_items.entry_row k s e in
          let short = H.fits.string_short k s γ e in
          row_asks w.row (pops (λ m. omega (arith, z.mark_is, m, short)) (omega (arith, entry_high g t k s γ e, H.rule_count)) z.length_is w.low w.on
          (omega (arith, pop_value_lem (length γ) short)))

      module _ {asked₀ others₀ asked others : List ℕ} (none : asked₀ ≡ replicate 64 0) (no-others : others₀ ≡ replicate 64 0) (a : Asks StateAsks asked₀ others₀ asked others) where
        nothing : {s : List ℕ} {c v : ℕ} → s ≡ replicate 64 0 → Demand s c v → ⊥
        nothing {c = c} z d = d.some (sym d.is ∙ subst (λ (s : List ℕ). get_or s c 0 ≡ 0) (sym z) (none_on 64 c))

        new_asked : {c v : ℕ} → Demand asked c v → StateAsks c v
        new_asked {c} {v} d = go (a.asking.only c v d)
          where
            go : Demand asked₀ c v ⊎ StateAsks c v → StateAsks c v
            go (inl e) = absurd (nothing none e)
            go (inr w) = w

        new_other : {c v : ℕ} → Demand others c v → StateAsks c v × Differs asked c v
        new_other {c} {v} d = go (a.asking.others_only c v d)
          where
            go : Demand others₀ c v ⊎ (StateAsks c v × Differs asked c v) → StateAsks c v × Differs asked c v
            go (inl e) = absurd (nothing no-others e)
            go (inr w) = w

        -- nothing else is asked
        alone : {c : ℕ} {x : Action} → c < 64 → Off others c → Asked g t (FirstBy codes nul fst) q c x → get_or asked c 0 ≡ demand_of x
        alone {c} {x} l off h = go (a.met c (demand_of x) (asked_state l h))
          where
            go : Met asked others c (demand_of x) → get_or asked c 0 ≡ demand_of x
            go (inl d) = d.is
            go (inr on) = absurd (on.nonzero off)

        pub holds_conflicts : HoldsConflicts g t (FirstBy codes nul fst) q asked others
        holds_conflicts = record { only = λ c l on. two c (new_other (record { is = refl; some = on.nonzero })); every = λ c x y l h k n. noted c x y l h k n (ℕ_discrete (get_or others c 0) 0) }
          where
            two : (c : ℕ) → StateAsks c (get_or others c 0) × Differs asked c (get_or others c 0) → Conflict g t (FirstBy codes nul fst) q c (get_or asked c 0) (get_or others c 0)
            two c w =
                let x = state_asked (new_asked w.1.there) in
                let y = state_asked w.0 in
                record {
                  first = x.0;
                  second = y.0;
                  first_asked = x.1;
                  second_asked = y.1;
                  first_number = x.2 ∙ sym w.1.there.is;
                  second_number = y.2;
                  differ = λ e. w.1.differ (sym x.2 ∙ (ap demand_of e ∙ y.2));
                }

            noted : (c : ℕ) (x y : Action) → c < 64 → Asked g t (FirstBy codes nul fst) q c x → Asked g t (FirstBy codes nul fst) q c y → (x ≡ y → ⊥)
                → Dec (Off others c) → On others c
            noted c x y l h k n (yes z) = absurd (n (same_action (askable h) (askable k) (sym (alone l z h) ∙ alone l z k)))
            noted c x y l h k n (no f) = set_on f

        module _ {b : Bool} (d : Decides ((c : ℕ) → c < 64 → Off others c) b) where
          pub holds_asked : b ≡ true → HoldsAsked g t (FirstBy codes nul fst) q asked
          holds_asked e = record {
            only = λ c l on. state_asked (new_asked (record { is = refl; some = on.nonzero }));
            every = λ c x l h. alone l (d.yes e c l) h;
          }

          pub decides_agree : Decides (CellsAgree g t (FirstBy codes nul fst) q) b
          decides_agree = record { yes = λ e. agree_below (λ X x y l m h k. sym (alone m (d.yes e X m) h) ∙ alone m (d.yes e X m) k); no = λ e u. d.no e (λ c l. off c l u (ℕ_discrete (get_or others c 0) 0)) }
            where
              off : (c : ℕ) → c < 64 → CellsAgree g t (FirstBy codes nul fst) q → Dec (Off others c) → Off others c
              off c l u (yes z) = z
              off c l u (no f) = absurd (refutes_conflict holds_conflicts l (set_on f) u)
