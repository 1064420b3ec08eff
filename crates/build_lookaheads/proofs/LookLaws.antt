-- What the passes flag is what the smallest lookaheads are.
use Prim.Native.Nat.{ℕ, zero, suc, ◌+◌, ◌*◌, ◌≤◌, ◌<◌}
use mathlib.Core.Path.{◌≡◌, refl, sym, ap, subst, ◌∙◌}
use mathlib.Core.Logic.{◌⊎◌, inl, inr}
use mathlib.Core.List.{List, [], ◌∷◌, ◌++◌}
use mathlib.Core.Option.{some}
use native.Mathlib.Omega.{arith}
use lib.ListN.{length}
use Rattle.language.specs.Grammar.{Grammar, Rule, rule_at, concat}
use Rattle.language.proofs.GrammarLaws.{rule_range}
use Rattle.language.specs.Sentence.{In, here}
use Rattle.leftcorner.specs.Table.{Table, Goes}
use Rattle.leftcorner.specs.Construction.{entry_item, EntryAt, KernelAt, Has, MovedBy, moved, Carries, in_kernel, in_closure}
use Rattle.leftcorner.proofs.Closure.{has_of}
use Rattle.fixpoint.specs.Flags.{On}
use Rattle.memory.specs.Memory.{state_at, item_at, dot_at}
use Rattle.analysis.specs.FirstBy.{FirstBy, first_low}
use Rattle.closure.specs.InMemory.{DeclaredItem, InMemory, LineIs}
use Rattle.closure.specs.Expansion.{HoldsClosure}
use Rattle.closure.proofs.ItemLaws.{line_at}
use Rattle.closure.proofs.ReachLaws as reach
use Rattle.moves.specs.Moves.{next_at}
use Rattle.item_first.specs.Rows.{RowOf}
use Rattle.item_first.proofs.CarryLaws.{Carried, row_item, row_in, in_row}
use Rattle.inclusions.specs.Included.{Included, by_move, by_group, FlagAsked}
use Rattle.inclusions.proofs.IncludeLaws.{NextIn, included_map, asked_included, included_asked}
use Rattle.inclusions.proofs.FlagLaws.{flag_map, flag_at, flag_line}
use Rattle.build_states.specs.Strings.{entry_strings}
use Rattle.build_states.proofs.EntryLaws.{entry_line, entry_number, found_entry, some_entry}
use Rattle.build_states.specs.States.{Kernel, item_of, alone, states, kernel_of, goto}
use Rattle.build_book.proofs.Over.{goes_over, moved_over}
use Rattle.build_states.proofs.MoveLaws.{item_of_lem, dot_of_lem, line_alone, move_only, in_move, moved_dot}
use Rattle.build_states.proofs.StateLaws.{more_states, entry_kernel, Reached, entry_or, goes_to_lem}
use Rattle.build_states.specs.Lookaheads.{bare, entry_of, Lookahead}
use Rattle.build_states.specs.Lookaheads as look
use Rattle.build_book.proofs.Carried.{group_wanted}
use Rattle.build_book.proofs.Live.{in_one}
use Rattle.build_lookaheads.specs.StatesHeld.{entry_table, LineOf, StatesHeld, HoldsLookaheads}
use Rattle.build_lookaheads.specs.Passes.{ClosureIs, SomeAsks, StateMet}
use Rattle.build_lookaheads.proofs.TableLaws.{held_entries, flag_table, flagged, flags_held}

moved_past : {g : Grammar} {t : Table} {q X i n : ℕ} → MovedBy g t q X i n → 1 ≤ n
moved_past (moved h go) = omega arith

-- every flag is that of a lookahead
pub record Sound (g : Grammar) (nul fst kernels : List ℕ) (lines codes : ℕ) (fs : List ℕ) : Type 0 where
  pub flag : (y : ℕ) → On fs y → FlagAsked (Lookahead g (FirstBy codes nul fst)) kernels lines codes y

-- all that the items of p ask by the lookaheads fs is flagged in `included`
pub record Met (g : Grammar) {items entries uses kernels kinds values gotos : List ℕ} {rules strings lines all codes : ℕ}
    (S : StatesHeld g items entries uses kernels kinds values gotos rules strings lines all codes) (nul fst fs included : List ℕ) (p : ℕ) : Type 0 where
  pub every : (q i k c l : ℕ) → Included g (entry_table g) (FirstBy codes nul fst) (NextIn kinds values gotos p) (Carries g (flag_table g S fs) (FirstBy codes nul fst) p) q i k c
      → LineIs kernels lines q i k l → On included (l * 64 + c)

module _ (g : Grammar) {items entries uses kernels kinds values gotos : List ℕ} {rules strings lines all codes : ℕ}
    (S : StatesHeld g items entries uses kernels kinds values gotos rules strings lines all codes) (nul fst : List ℕ) where
  -- more is flagged
  pub met_more : {fs included included' : List ℕ} {p : ℕ} → Met g S nul fst fs included p → ((y : ℕ) → On included y → On included' y) → Met g S nul fst fs included' p
  met_more m f = record { every = λ q i k c l h w. f (l * 64 + c) (m.every q i k c l h w) }

  -- what is flagged is flagged below the lines' end
  pub met_within : {fs included included' : List ℕ} {p : ℕ} → codes ≤ 64 → Met g S nul fst fs included p → Sound g nul fst kernels lines codes included
      → ((y : ℕ) → y < lines * 64 → On included y → On included' y) → Met g S nul fst fs included' p
  met_within few m s f = met_more m (λ y on. let h = s.flag y on in f y (omega (arith, h.within, h.low, h.is, few)) on)

module _ (g : Grammar) {items entries uses kernels kinds values gotos : List ℕ} {rules strings lines all codes : ℕ}
    (S : StatesHeld g items entries uses kernels kinds values gotos rules strings lines all codes) (nul fst fs : List ℕ) (few : codes ≤ 64)
    (s : Sound g nul fst kernels lines codes fs) where
  abbrev t : Table
  t = flag_table g S fs

  memory : InMemory items kernels fs rules lines codes g t
  memory = flags_held g S fs few s.flag

  -- a flag of a line, and a lookahead of its item
  pub look_at : (l d : ℕ) → l < lines → d < 64 → On fs (l * 64 + d) → Lookahead g (FirstBy codes nul fst) (state_at kernels l) (item_at kernels l) (dot_at kernels l) d
  look_at l d within low on = (flag_line l d few low (s.flag (l * 64 + d) on)).1

  at_place : {q i k q' i' k' d : ℕ} → q' ≡ q → i' ≡ i → k' ≡ k → Lookahead g (FirstBy codes nul fst) q' i' k' d → Lookahead g (FirstBy codes nul fst) q i k d
  at_place {q} {i} {k} {q'} {i'} {k'} {d} a b c h =
      subst (λ (x : ℕ). Lookahead g (FirstBy codes nul fst) x i k d) a
      (subst (λ (x : ℕ). Lookahead g (FirstBy codes nul fst) q' x k d) b (subst (λ (x : ℕ). Lookahead g (FirstBy codes nul fst) q' i' x d) c h))

  looked : {q i k d : ℕ} → Carries g t (FirstBy codes nul fst) q i k d → Lookahead g (FirstBy codes nul fst) q i k d
  looked {d = d} (in_kernel h m) =
      let f = flagged g S fs h in
      let c = f.code d m in
      at_place f.state f.item f.dot (look_at f.line d f.within c.1 c.0)
  looked (in_closure j h go e l f) = look.of_closure j (looked h) (goes_over g t (bare g) refl go) e l f

  -- ---- states and moves
  has_state : {q i k : ℕ} → Has g t q i k → (1 ≤ q) × (q ≤ length (states g))
  has_state {q = q} (Has.in_kernel h) =
      let f = flagged g S fs h in
      let l = S.line_of f.line f.within in
      subst (λ (x : ℕ). (1 ≤ x) × (x ≤ length (states g))) f.state (l.low, l.high)
  has_state (Has.in_closure j h go e l) = has_state h

  to_alone : (q i k : ℕ) (σ : List ℕ) → KernelAt g t q i k σ → (τ : List ℕ) × KernelAt g (alone g (kernel_of g q)) 1 i k τ
  to_alone q i k σ h =
      let f = flagged g S fs h in
      let l = S.line_of f.line f.within in
      let w = line_alone g (subst (λ (x : ℕ). In l.number (kernel_of g x)) f.state l.stands) in (
        [],
        subst (λ (x : ℕ). KernelAt g (alone g (kernel_of g q)) 1 x k []) (sym l.item ∙ f.item)
            (subst (λ (x : ℕ). KernelAt g (alone g (kernel_of g q)) 1 (item_of l.number) x []) (sym l.dot ∙ f.dot) w),
      )

  moves : {q i k X : ℕ} {β : List ℕ} → Has g t q i k → Goes g t i k X β → MovedBy g (alone g (kernel_of g q)) 1 X i (suc k)
  moves {q = q} h go = moved_over g t (alone g (kernel_of g q)) refl q 1 (to_alone q) (moved h go)

  next_goto : {q i k X : ℕ} {β : List ℕ} → Has g t q i k → Goes g t i k X β → next_at kinds values gotos q X ≡ goto g q X
  next_goto {q} {i} {k} {X} h go =
      let p = has_state h in
      S.next_is q X (i * 16 + suc k) p.0 p.1 (in_move g S.limits.formed S.limits.few_entries (kernel_of g q) (moves h go))

  -- ---- what is asked
  row_declared : {p i k start : ℕ} {present follow from : List ℕ} → RowOf items kernels fs present follow rules lines p i k from start → DeclaredItem g (entry_table g) i
  row_declared R = go (row_item g t memory R)
    where
      entry : (j : ℕ) {u : ℕ} {γ : List ℕ} → EntryAt g t j u γ → EntryAt g (entry_table g) j u γ
      entry zero e = e
      entry (suc j) e = e

      go : {i : ℕ} → DeclaredItem g t i → DeclaredItem g (entry_table g) i
      go (inl r) = inl r
      go (inr (j, u, γ, ei, e)) = inr (j, u, γ, ei, entry j e)

  module _ {p : ℕ} {present follow : List ℕ} (C : ClosureIs items kernels fs nul fst rules lines codes p present follow) where
    closed : HoldsClosure g t (FirstBy codes nul fst) p present follow
    closed = C.holds g t memory

    carries : {i k d : ℕ} → Carried items kernels fs present follow rules lines codes p i k d → Carries g t (FirstBy codes nul fst) p i k d
    carries c = row_in g t memory S.limits.formed few nul fst closed c.row c.low c.on

    look_asked : {q i k c : ℕ} → Included g (entry_table g) (FirstBy codes nul fst) (NextIn kinds values gotos p) (Carried items kernels fs present follow rules lines codes p) q i k c
        → Lookahead g (FirstBy codes nul fst) q i k c
    look_asked (by_move {X = X} nx car go) =
        let h = carries car in
        let e = next_goto (has_of g t h) (goes_over g (entry_table g) t refl go) in
        at_place (sym e ∙ nx.is_next) refl refl (look.of_move (looked h) (goes_over g (entry_table g) (bare g) refl go))
    look_asked (by_group {i = i} e {γ = γ} δs εs ent er split car f) =
        let n : entry_of g γ ≡ e = entry_number g (entry_table g) refl e ent in
        let u = entry_line g (entry_table g) refl e ent in
        at_place (n ∙ sym u.0) (ap (λ (x : ℕ). length g.rules + x) n) refl (look.of_group i δs γ εs er (looked (carries car)) split f)

  pub sound_asked : {y : ℕ} → SomeAsks items kernels fs kinds values gotos entries uses nul fst rules lines codes all y → FlagAsked (Lookahead g (FirstBy codes nul fst)) kernels lines codes y
  sound_asked a = flag_map (λ q i k c. look_asked a.closure)
      (asked_included g (entry_table g) (held_entries g S) S.holds_uses nul fst codes kernels fs kinds values gotos a.present a.follow lines a.state
      (λ i k start from. row_declared) a.asks)

  on_carries : {q i k d l : ℕ} → LineIs kernels lines q i k l → d < 64 → On fs (l * 64 + d) → Carries g t (FirstBy codes nul fst) q i k d
  on_carries {q} {i} {k} {d} {l} w low on =
      let r = line_at g t memory.holds_kernels memory.line_count w in
      in_kernel r.1 (memory.holds_kernels.on_code l q i k d r.2 low on)

  carries_low : {q i k d : ℕ} → Carries g t (FirstBy codes nul fst) q i k d → d < codes
  carries_low h = reach.carries_low g t (FirstBy codes nul fst) codes memory.code_low (λ β d c l f. first_low codes nul fst l f) h

  -- all that p's items ask by these lookaheads is flagged in `included`
  pub met_state : {p : ℕ} {included : List ℕ} → StateMet items kernels fs kinds values gotos entries uses nul fst rules lines codes included p → Met g S nul fst fs included p
  met_state {p} {included} m = record { every = λ q i k c l. on_included }
    where
      rowed : {i k d : ℕ} → Carries g t (FirstBy codes nul fst) p i k d → Carried items kernels fs m.present m.follow rules lines codes p i k d
      rowed h = in_row g t memory S.limits.formed few nul fst (m.closure.holds g t memory) h

      included_low : {q i k c : ℕ} → Included g (entry_table g) (FirstBy codes nul fst) (NextIn kinds values gotos p) (Carries g t (FirstBy codes nul fst) p) q i k c → c < codes
      included_low (by_move nx h go) = carries_low h
      included_low (by_group e δs εs ent er split h f) = first_low codes nul fst (carries_low h) f

      on_included : {q i k c l : ℕ} → Included g (entry_table g) (FirstBy codes nul fst) (NextIn kinds values gotos p) (Carries g t (FirstBy codes nul fst) p) q i k c → LineIs kernels lines q i k l
          → On included (l * 64 + c)
      on_included {c = c} {l = l} h w =
          m.every (l * 64 + c)
          (included_asked g (entry_table g) (held_entries g S) S.holds_uses nul fst codes kernels fs kinds values gotos m.present m.follow lines p (λ i k start from. row_declared)
          (flag_at l w (included_low h) refl (included_map (λ i k d. rowed) h)))

  -- lookaheads that grew in lines of other states
  pub met_included : {p : ℕ} {fs' included : List ℕ} → Met g S nul fst fs included p → ((l c : ℕ) → l < lines → state_at kernels l ≡ p → c < 64 → On fs' (l * 64 + c) → On fs (l * 64 + c))
      → Met g S nul fst fs' included p
  met_included {p} {fs'} m same = record { every = λ q i k c l h w. m.every q i k c l (included_map (λ i k d. before) h) w }
    where
      before : {i k d : ℕ} → Carries g (flag_table g S fs') (FirstBy codes nul fst) p i k d → Carries g t (FirstBy codes nul fst) p i k d
      before {d = d} (in_kernel h n) =
          let f = flagged g S fs' h in
          let c = f.code d n in
          on_carries (record { within = f.within; state = f.state; item = f.item; dot = f.dot }) c.1 (same f.line d f.within f.state c.1 c.0)
      before (in_closure j h go e l f) = in_closure j (before h) (goes_over g (flag_table g S fs') t refl go) e l f

  -- ---- where all that is asked is flagged
  module _ (goal : (l : ℕ) → LineIs kernels lines 1 (rules + 1) 0 l → On fs (l * 64 + 0)) (met : (p : ℕ) → 1 ≤ p → p ≤ all → Met g S nul fst fs fs p) where
    line_is : {q i k q' i' k' l : ℕ} → q ≡ q' → i ≡ i' → k ≡ k' → LineIs kernels lines q i k l → LineIs kernels lines q' i' k' l
    line_is a b c d = record { within = d.within; state = d.state ∙ a; item = d.item ∙ b; dot = d.dot ∙ c }

    -- what state p asks of a line
    asked_on : {p i k d q j n c l : ℕ} → Carries g t (FirstBy codes nul fst) p i k d → LineIs kernels lines q j n l
        → Included g (entry_table g) (FirstBy codes nul fst) (NextIn kinds values gotos p) (Carries g t (FirstBy codes nul fst) p) q j n c → On fs (l * 64 + c)
    asked_on {p = p} h w x = let r = has_state (has_of g t h) in (met p r.0 (omega (arith, r.1, S.state_count))).every _ _ _ _ _ x w

    move_on : {q i k d X l : ℕ} {β : List ℕ} → Carries g t (FirstBy codes nul fst) q i k d → Goes g (bare g) i k X β → LineIs kernels lines (goto g q X) i (suc k) l → On fs (l * 64 + d)
    move_on {q} {i} {k} {d} {X} h go w =
        let go' = goes_over g (bare g) t refl go in
        let y = goes_to_lem g S.limits q X i (suc k) (has_state (has_of g t h)).0 (has_state (has_of g t h)).1 (moves (has_of g t h) go') in
        asked_on h w (by_move (record { some_state = λ z. omega (arith, z, y.low); is_next = next_goto (has_of g t h) go' }) h (goes_over g (bare g) (entry_table g) refl go))

    group_on : {q d c l : ℕ} (i : ℕ) {r : Rule} (δs : List (List ℕ)) (γ : List ℕ) (εs : List (List ℕ)) → rule_at g i ≡ some r
        → Carries g t (FirstBy codes nul fst) q i (length r.before) d → r.groups ≡ δs ++ γ ∷ εs → FirstBy codes nul fst (concat εs) d c
        → LineIs kernels lines (entry_of g γ) (entry_item g (bare g) (entry_of g γ)) zero l → On fs (l * 64 + c)
    group_on i δs γ εs e h split f w = asked_on h w (by_group (entry_of g γ) δs εs (found_entry g (entry_table g) refl (group_wanted g i δs γ εs e split)) e split h f)

    -- the line of an entry
    entry_at_lem : (e : ℕ) → 1 ≤ e → e ≤ length (entry_strings g) → (l : ℕ) × LineIs kernels lines e (length g.rules + e) 0 l
    entry_at_lem e low high =
        let k = entry_kernel g e low high in
        let x = (length g.rules + e) * 16 in
        let r = S.of_line e x low (omega (arith, high, more_states g)) (subst (λ (z : Kernel). In x z) (sym k) here) in
        (r.0, line_is refl (omega arith) (omega arith) r.1)

    -- the line of an item that has moved
    moved_at : {q i k X : ℕ} {β : List ℕ} → Has g t q i k → Goes g t i k X β → (l : ℕ) × LineIs kernels lines (goto g q X) i (suc k) l
    moved_at {q} {i} {k} {X} h go =
        let p = has_state h in
        let a = moves h go in
        let n = moved_dot g S.limits.formed S.limits.few_entries (kernel_of g q) a in
        let y = goes_to_lem g S.limits q X i (suc k) p.0 p.1 a in
        let r = S.of_line (goto g q X) (i * 16 + suc k) y.low y.high
        (subst (λ (z : Kernel). In (i * 16 + suc k) z) (sym y.kernel) (in_move g S.limits.formed S.limits.few_entries (kernel_of g q) a)) in
        (r.0, line_is refl (item_of_lem i (suc k) n) (dot_of_lem i (suc k) n) r.1)

    goal_on : {l : ℕ} → LineIs kernels lines 1 (entry_item g (bare g) 1) zero l → On fs (l * 64 + 0)
    goal_on {l} w = goal l (line_is refl (omega (arith, S.rule_count)) refl w)

    carried : {q i k d : ℕ} → Lookahead g (FirstBy codes nul fst) q i k d → Carries g t (FirstBy codes nul fst) q i k d
    carried look.of_goal = let r = entry_at_lem 1 (omega arith) (some_entry g) in on_carries r.1 (omega arith) (goal_on r.1)
    carried (look.of_closure j h go e l f) = in_closure j (carried h) (goes_over g (bare g) t refl go) e l f
    carried (look.of_move h go) =
        let c = carried h in
        let r = moved_at (has_of g t c) (goes_over g (bare g) t refl go) in
        on_carries r.1 (omega (arith, carries_low c, few)) (move_on c go r.1)
    carried (look.of_group {c = x} i δs γ εs e h p f) =
        let c = carried h in
        let u = entry_line g (bare g) refl (entry_of g γ) (found_entry g (bare g) refl (group_wanted g i δs γ εs e p)) in
        let r = entry_at_lem (entry_of g γ) u.1 u.2 in
        let low = first_low codes nul fst (carries_low c) f in
        on_carries r.1 (omega (arith, low, few)) (group_on i δs γ εs e c p f r.1)

    -- no kernel item is a rule with its dot at 0
    no_rule : {q j l : ℕ} {r : Rule} → rule_at g j ≡ some r → LineIs kernels lines q j zero l → ⊥
    no_rule {q} {j} {l} e w = go (S.line_of l w.within)
      where
        go : LineOf g kernels l → ⊥
        go o = pick (entry_or g (state_at kernels l) o.high)
          where
            pick : (state_at kernels l ≤ length (entry_strings g)) ⊎ Reached g (state_at kernels l) → ⊥
            pick (inl high) =
                let x = in_one (subst (λ (z : Kernel). In o.number z) (entry_kernel g (state_at kernels l) o.low high) o.stands) in
                omega (arith, x, o.item, o.low, w.item, (rule_range g j e).1)
            pick (inr c) =
                let m = move_only g (kernel_of g c.from) c.symbol o.number (subst (λ (z : Kernel). In o.number z) c.kernel o.stands) in
                omega (arith, moved_past m, o.dot, w.dot)

    every_on : {q i k d l : ℕ} → Lookahead g (FirstBy codes nul fst) q i k d → LineIs kernels lines q i k l → On fs (l * 64 + d)
    every_on look.of_goal w = goal_on w
    every_on (look.of_closure j h go e l f) w = absurd (no_rule e w)
    every_on (look.of_move h go) w = move_on (carried h) go w
    every_on (look.of_group i δs γ εs e h p f) w = group_on i δs γ εs e (carried h) p f w

    pub holds_all : HoldsLookaheads (Lookahead g (FirstBy codes nul fst)) kernels fs lines
    holds_all = record {
      only = λ l c within low on. look_at l c within low on;
      every = λ l c within h. every_on h (record { within = within; state = refl; item = refl; dot = refl });
    }
