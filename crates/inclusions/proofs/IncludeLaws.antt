-- What is asked in memory is what the construction includes.
use Prim.Native.Nat.{ℕ, suc, ◌+◌, ◌*◌, ◌≤◌, ◌<◌}
use mathlib.Core.Path.{◌≡◌, refl, sym, ap, subst, ◌∙◌}
use mathlib.Core.Logic.{inl, inr}
use mathlib.Core.List.{List, ◌∷◌, ◌++◌}
use mathlib.Core.Option.{some}
use native.Mathlib.Numerals.{add-one}
use native.Mathlib.Omega.{arith}
use lib.ListN.{length, get_or}
use Rattle.language.specs.Grammar.{Grammar, Rule, rule_at}
use Rattle.language.proofs.GrammarLaws.{rule_range}
use Rattle.leftcorner.specs.Table.{Table}
use Rattle.leftcorner.specs.Construction.{entry_item}
use Rattle.leftcorner.proofs.ReadOff.{entry_is}
use Rattle.leftcorner.proofs.Sources.{entry_high}
use Rattle.items.specs.Layout.{length_at, mark_at}
use Rattle.memory.specs.Held.{HoldsTable}
use Rattle.analysis.specs.Adds.{Adds}
use Rattle.analysis.specs.FirstBy.{FirstBy, first_low}
use Rattle.closure.specs.Expansion.{HoldsClosure}
use Rattle.closure.specs.InMemory.{DeclaredItem, LineIs}
use Rattle.analysis.proofs.AddLaws.{adds_map}
use Rattle.moves.specs.Moves.{next_at}
use Rattle.moves.proofs.NextLaws.{next_line, line_next}
use Rattle.moves.proofs.RowLaws.{row_of, symbol_of_goes, goes_of_symbol}
use Rattle.item_first.specs.Rows.{RowOf}
use Rattle.item_first.proofs.CarryLaws.{Carried, row_declared, row_carries, carries_row}
use Rattle.check_entries.specs.Uses.{HoldsUses}
use Rattle.inclusions.specs.Groups.{group_begin}
use Rattle.inclusions.specs.Asks.{MoveAsks, GroupAsks, GroupsAsk, ItemAsks, StateAsks}
use Rattle.inclusions.specs.Asks as asks
use Rattle.inclusions.specs.Included.{Included, by_move, by_group, Includes, FlagAsked}
use Rattle.inclusions.proofs.FlagLaws.{flag_map, flag_at}
use Rattle.inclusions.proofs.RuleLaws.{found_entry, base_low, begin_at, rest_at_lem, use_at, find_group}

-- p goes to q on X
pub record NextIn (kinds values gotos : List ℕ) (p X q : ℕ) : Type 0 where
  pub some_state : q ≡ 0 → ⊥
  pub is_next : next_at kinds values gotos p X ≡ q

pub included_map : {g : Grammar} {t : Table} {F : List ℕ → ℕ → ℕ → Type 0} {Next : ℕ → ℕ → Type 0} {Has Had : ℕ → ℕ → ℕ → Type 0} {q i k c : ℕ}
    → ((i k d : ℕ) → Has i k d → Had i k d) → Included g t F Next Has q i k c → Included g t F Next Had q i k c
included_map f (by_move nx h go) = by_move nx (f _ _ _ h) go
included_map f (by_group e δs εs ent er split h x) = by_group e δs εs ent er split (f _ _ _ h) x

-- The table may be any whose items and entries stand in memory, whatever its lines; the kernel lines and next states are read off memory.
module _ (g : Grammar) (t : Table) {items entries ks ls kd vs gs : List ℕ} {rules strings n : ℕ} (H : HoldsTable g t items entries ks ls kd vs gs rules strings n)
    {uses : List ℕ} (U : HoldsUses uses g t) (nul fst : List ℕ) (codes : ℕ) (kernels lookaheads kinds values gotos present follow : List ℕ) (lines p : ℕ)
    (declared : (i k start : ℕ) (from : List ℕ) → RowOf items kernels lookaheads present follow rules lines p i k from start → DeclaredItem g t i) where
  -- what the state's items ask, as they stand in memory
  abbrev pub InMemory : ℕ → ℕ → ℕ → ℕ → Type 0
  InMemory = Included g t (FirstBy codes nul fst) (NextIn kinds values gotos p) (Carried items kernels lookaheads present follow rules lines codes p)

  abbrev Flag : ℕ → Type 0
  Flag y = FlagAsked InMemory kernels lines codes y

  entry_number : (k : ℕ) → entry_item g t k ≡ rules + k
  entry_number k = omega (arith, H.rule_count)

  rule_of_lem : {i : ℕ} → DeclaredItem g t i → i ≤ rules → (r : Rule) × (rule_at g i ≡ some r)
  rule_of_lem (inl h) l = h
  rule_of_lem (inr (j, s, γ, ei, e)) l = absurd (omega (arith, ei, l, entry_high g t j s γ e, H.rule_count))

  module _ {i k start : ℕ} {from : List ℕ} (R : RowOf items kernels lookaheads present follow rules lines p i k from start) (y : ℕ) where
    move_asked : MoveAsks items kernels kinds values gotos from lines codes p i k start y → Flag y
    move_asked h =
        let go = goes_of_symbol g t H k (row_of g t H (declared i k start from R)) refl h.moves in
        let o = h.asks in
        let w = o.holds.row in
        flag_at o.line (record { within = o.within; state = o.state; item = o.holds.item; dot = o.holds.dot ∙ add-one k }) w.low w.is
        (by_move (record { some_state = h.leads; is_next = refl }) (record { from = from; start = start; row = R; low = w.low; on = w.on }) go.1)

    group_asked : i ≤ rules → mark_at items i ≡ k → GroupsAsk items kernels entries uses nul fst from rules lines codes i start y → Flag y
    group_asked li em h = go (find_group g t H i r.1 h.group h.begins)
      where
        r : (r : Rule) × (rule_at g i ≡ some r)
        r = rule_of_lem (declared i k start from R) li

        go : (δs : List (List ℕ)) × (γ : List ℕ) × (εs : List (List ℕ)) × (r.0.groups ≡ δs ++ γ ∷ εs) × (length δs ≡ h.group) → Flag y
        go (δs, γ, εs, split, ej) =
            let a : GroupAsks items kernels entries nul fst from rules lines codes i (group_begin items i (suc (length δs))) (get_or uses (i * 16 + length δs) 0) start y =
            subst (λ (m : ℕ). GroupAsks items kernels entries nul fst from rules lines codes i (group_begin items i (suc m)) (get_or uses (i * 16 + m) 0) start y) (sym ej) h.asks in
            let e = get_or uses (i * 16 + length δs) 0 in
            let ent = found_entry g t γ (use_at g t H i r.1 δs γ εs split U) a.some_entry in
            let d = a.is_line in
            let f = a.first in
            let point : k ≡ length r.0.before = sym em ∙ (H.holds_items.rule_row i r.1).mark_is in
            let car : Carried items kernels lookaheads present follow rules lines codes p i (length r.0.before) f.code =
            subst (λ (m : ℕ). Carried items kernels lookaheads present follow rules lines codes p i m f.code) point (record { from = from; start = start; row = R; low = f.low; on = f.on }) in
            flag_at a.line
            (record { within = d.within; state = d.state ∙ H.holds_entries.state_is e ent.0 ent.1; item = d.item ∙ sym (entry_number e); dot = d.dot })
            (first_low codes nul fst f.low f.first) a.is
            (by_group e δs εs ent.1 r.1 split car (subst (λ (β : List ℕ). FirstBy codes nul fst β f.code a.code) (rest_at_lem g t H i r.1 δs γ εs split) f.first))

    item_asked : ItemAsks items kernels kinds values gotos entries uses nul fst from rules lines codes p i k start y → Flag y
    item_asked (asks.by_move h) = move_asked h
    item_asked (asks.by_group l e h) = group_asked l e h

  pub asked_included : {y : ℕ} → StateAsks items kernels lookaheads kinds values gotos entries uses nul fst present follow rules lines codes p y
      → FlagAsked (Included g t (FirstBy codes nul fst) (NextIn kinds values gotos p) (Carried items kernels lookaheads present follow rules lines codes p)) kernels lines codes y
  asked_included {y = y} h = item_asked h.row y h.asks

  asks_at : {q i k c : ℕ} (y l : ℕ) → LineIs kernels lines q i k l → c < codes → y ≡ l * 64 + c → InMemory q i k c
      → StateAsks items kernels lookaheads kinds values gotos entries uses nul fst present follow rules lines codes p y
  asks_at y l d low is (by_move {k = k} {X = X} nx car go) =
      let s = symbol_of_goes g t H (row_of g t H (declared _ _ _ _ car.row)) go in
      let next = ap (next_at kinds values gotos p) s.0 ∙ nx.is_next in
      record {
        item = _;
        dot = k;
        from = car.from;
        start = car.start;
        row = car.row;
        asks = asks.by_move (record {
          moves = λ z. omega (arith, s.1.0, sym s.0 ∙ z);
          leads = λ z. nx.some_state (sym next ∙ z);
          asks = record {
            line = l;
            within = d.within;
            state = d.state ∙ sym next;
            holds = record { item = d.item; dot = d.dot ∙ sym (add-one k); row = record { code = _; low = low; on = car.on; is = is } };
          };
        });
      }
  asks_at {q = q} {c = c} y l d low is (by_group {i = i} {d = a} e {γ = γ} {r = r} δs εs ent er split car f) =
      let u : get_or uses (i * 16 + length δs) 0 ≡ e = use_at g t H i er δs γ εs split U ∙ entry_is g t H.fits.form e q γ ent in
      record {
        item = i;
        dot = length r.before;
        from = car.from;
        start = car.start;
        row = car.row;
        asks = asks.by_group (omega (arith, (rule_range g i er).1, H.rule_count)) (H.holds_items.rule_row i er).mark_is (record {
          group = length δs;
          begins = subst (λ (m : ℕ). m < length_at items i) (sym (begin_at g t H i er δs γ εs split)) (base_low g t H i er δs γ εs split);
          asks = record {
            some_entry = λ z. omega (arith, sym u ∙ z, entry_high g t e q γ ent);
            line = l;
            is_line = record {
              within = d.within;
              state = d.state ∙ sym (ap (λ (m : ℕ). get_or entries m 0) u ∙ H.holds_entries.state_is e q ent);
              item = d.item ∙ (entry_number e ∙ ap (λ (m : ℕ). rules + m) (sym u));
              dot = d.dot;
            };
            code = c;
            first = record { code = a; low = car.low; on = car.on; first = subst (λ (β : List ℕ). FirstBy codes nul fst β a c) (sym (rest_at_lem g t H i er δs γ εs split)) f };
            is = is;
          };
        });
      }

  pub included_asked : {y : ℕ} → FlagAsked (Included g t (FirstBy codes nul fst) (NextIn kinds values gotos p) (Carried items kernels lookaheads present follow rules lines codes p)) kernels lines codes y
      → StateAsks items kernels lookaheads kinds values gotos entries uses nul fst present follow rules lines codes p y
  included_asked {y = y} h = asks_at y h.line (record { within = h.within; state = refl; item = refl; dot = refl }) h.low h.is h.asked

-- ---- a table whose kernel lines and next states stand in memory too
module _ (g : Grammar) (t : Table) {items entries kernels lookaheads kinds values gotos : List ℕ} {rules strings lines : ℕ}
    (H : HoldsTable g t items entries kernels lookaheads kinds values gotos rules strings lines) {codes : ℕ} (nul fst : List ℕ) (count : codes ≡ suc g.terminals) {p : ℕ} (lp : p < 256)
    {present follow uses : List ℕ} (C : HoldsClosure g t (FirstBy codes nul fst) p present follow) (U : HoldsUses uses g t) where
  to_table : {q i k c : ℕ} → Included g t (FirstBy codes nul fst) (NextIn kinds values gotos p) (Carried items kernels lookaheads present follow rules lines codes p) q i k c → Includes g t (FirstBy codes nul fst) p q i k c
  to_table {q = q} (by_move {X = X} nx car go) =
      let s = symbol_of_goes g t H (row_of g t H (row_declared g t H car.row)) go in
      let a = line_next g t H p X lp s.1.1 (λ z. nx.some_state (sym nx.is_next ∙ z)) in
      by_move (record { action = a.0; line = a.1; next = a.2 ∙ ap (λ (m : ℕ). some m) nx.is_next }) (row_carries g t H nul fst count C car.row car.low car.on) go
  to_table (by_group e δs εs ent er split car f) = by_group e δs εs ent er split (row_carries g t H nul fst count C car.row car.low car.on) f

  of_table : {q i k c : ℕ} → Includes g t (FirstBy codes nul fst) p q i k c → Included g t (FirstBy codes nul fst) (NextIn kinds values gotos p) (Carried items kernels lookaheads present follow rules lines codes p) q i k c
  of_table (by_move l car go) =
      let n = next_line g t H l.action l.line l.next in
      by_move (record { some_state = n.some_state; is_next = n.is_next }) (carries_row g t H nul fst count C car) go
  of_table (by_group e δs εs ent er split car f) = by_group e δs εs ent er split (carries_row g t H nul fst count C car) f

  pub adds_included : {fs fs' : List ℕ} → Adds (StateAsks items kernels lookaheads kinds values gotos entries uses nul fst present follow rules lines codes p) fs fs'
      → Adds (FlagAsked (Includes g t (FirstBy codes nul fst) p) kernels lines codes) fs fs'
  adds_included a = adds_map
      (λ y h. flag_map (λ q i k c. to_table) (asked_included g t H U nul fst codes kernels lookaheads kinds values gotos present follow lines p (λ i k start from. row_declared g t H) h))
      (λ y h. included_asked g t H U nul fst codes kernels lookaheads kinds values gotos present follow lines p (λ i k start from. row_declared g t H) (flag_map (λ q i k c. of_table) h)) a
