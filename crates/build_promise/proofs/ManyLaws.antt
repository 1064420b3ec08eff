-- The builder's states are the kernel sets that are reached: all of them within the limits, and enough of them past the limits to
-- show that there are too many.
use Prim.Native.Nat.{ℕ, zero, suc, ◌+◌, ◌*◌, ◌≤◌}
use native.Mathlib.Omega.{arith}
use native.Mathlib.Decide.{dec_le}
use mathlib.Core.Path.{◌≡◌, refl, sym, ap, subst, ◌∙◌}
use mathlib.Core.Logic.{◌⊎◌, inl, inr}
use mathlib.Core.List.{List, [], ◌∷◌, map}
use lib.ListN.{length, length-map}
use Rattle.language.specs.Grammar.{Grammar}
use Rattle.language.specs.Sentence.{In, here, there}
use Rattle.language.specs.WellFormed as grammar
use Rattle.language.proofs.Member.{in_cons, in_map}
use Rattle.language.proofs.GrammarLaws.{at_below}
use Rattle.leftcorner.specs.Construction.{EntryAt}
use Rattle.check_verdict.proofs.Tests.{map_dec, both?}
use Rattle.build_states.specs.Strings.{entry_strings}
use Rattle.build_states.proofs.Distinct.{Distinct, in_at}
use Rattle.build_states.proofs.EntryLaws.{strings_distinct, strings_wanted, wanted_string, entry_at_lem, entry_line}
use Rattle.build_states.specs.States.{Kernel, item_of, dot_of, find, total, move, states, kernel_of, goto}
use Rattle.build_states.proofs.Discovery.{find_is, in_get_d}
use Rattle.build_book.proofs.Once.{Once}
use Rattle.build_states.proofs.MoveLaws.{move_only, move_rising}
use Rattle.build_states.proofs.StateLaws as lalr
use Rattle.build_states.specs.Lookaheads.{bare}
use Rattle.build_book.proofs.BookLaws.{Within, limits}
use Rattle.build_promise.specs.Kernels as kernels
use Rattle.build_promise.specs.Kernels.{Dotted, dot, entry, Same, sum, Reached, from_entry, from_move, States, TooMany, WithinLimits}
use Rattle.build_promise.proofs.Counting.{no_longer, no_heavier, once_map}
use Rattle.build_promise.proofs.KernelLaws.{source, dotted, items, Known, source-entry, known_entry, Formed, items_once, items_apart, moved_known, moved_to, moved_from, moved_over, move-items}

distinct_once : (l : List (List ℕ)) → Distinct l → Once ◌≡◌ l
distinct_once [] d = tt
distinct_once (γ ∷ l) d = (λ δ m e. d.0 (subst (λ (x : List ℕ). In x l) (sym e) m), distinct_once l d.1)

total_is : (ks : List Kernel) → sum (map length ks) ≡ total ks
total_is [] = refl
total_is (k ∷ ks) = omega (arith, total_is ks)

pub within? : (g : Grammar) → Dec (Within g)
within? g = map_dec (λ h. record { few_entries = h.0; few_states = h.1.0; few_lines = h.1.1 }) (λ w. (w.few_entries, (w.few_states, w.few_lines)))
    (both? (dec_le (length (entry_strings g)) 127) (both? (dec_le (length (states g)) 255) (dec_le (total (states g)) 1023)))

module _ (g : Grammar) where
  reached_once : {K : List Dotted} → Reached g K → Once ◌≡◌ K
  reached_once (from_entry w) = (λ a m. elim m [ ], tt)
  reached_once (from_move r m only once) = once

  weigh_items : (ks : List Kernel) → sum (map length (map (items g) ks)) ≡ total ks
  weigh_items [] = refl
  weigh_items (k ∷ ks) = omega (arith, weigh_items ks, length-map k (dotted g))

  -- a kernel set that the builder has, by its number
  in_states : (q : ℕ) → 1 ≤ q → q ≤ length (states g) → In (kernel_of g q) (states g)
  in_states zero l h = absurd (omega (arith, l))
  in_states (suc p) l h = in_get_d (states g) p h

  by_number : (Φ : Kernel → Type 0) → ((q : ℕ) → 1 ≤ q → q ≤ length (states g) → Φ (kernel_of g q)) → (k : Kernel) → In k (states g) → Φ k
  by_number Φ f k m = let s = find_is m in subst Φ s.1 (f (suc (find k (states g))) (omega arith) s.0)

  -- entry q's line
  entry_of_lem : (q : ℕ) → 1 ≤ q → q ≤ length (entry_strings g) → (γ : List ℕ) × EntryAt g (bare g) q q γ
  entry_of_lem zero l h = absurd (omega (arith, l))
  entry_of_lem (suc j) l h = let a = at_below (entry_strings g) j h in (a.0, entry_at_lem g (bare g) refl j a.1)

  pub entry-items : (q : ℕ) {γ : List ℕ} → EntryAt g (bare g) q q γ → items g (kernel_of g q) ≡ dot (entry γ) zero ∷ []
  entry-items q {γ = γ} e =
      let l = entry_line g (bare g) refl q e in
      let x = (length g.rules + q) * 16 in
      let z : item_of x ≡ length g.rules + q = omega arith in
      let o : dot_of x ≡ 0 = omega arith in
      ap (items g) (lalr.entry_kernel g q l.1 l.2) ∙ ap (λ (i : ℕ). dot (source g i) (dot_of x) ∷ []) z
      ∙ ap (λ (ι : kernels.Item). dot ι (dot_of x) ∷ []) (source-entry g q e) ∙ ap (λ (n : ℕ). dot (entry γ) n ∷ []) o

  module _ (W : grammar.WellFormed g) where
    -- ---- every state is reached, whatever their number

    module _ (few : length (entry_strings g) ≤ 127) where
      move_formed : (k : Kernel) (X : ℕ) → Formed g (move g k X)
      move_formed k X = record { rising = move_rising g k X; known = λ x m. moved_known g W few k (move_only g k X x m) }

      kernel_formed : (q : ℕ) → 1 ≤ q → q ≤ length (states g) → Formed g (kernel_of g q)
      kernel_formed q l h = go (lalr.entry_or g q h)
        where
          one : {x y : ℕ} → In x (y ∷ []) → (x ≡ y) ⊎ In x [] → x ≡ y
          one m (inl e) = e
          one m (inr n) = elim n [ ]

          of_entry : q ≤ length (entry_strings g) → (x : ℕ) → In x (kernel_of g q) → Known g (item_of x)
          of_entry e x m =
              let n = subst (λ (k : Kernel). In x k) (lalr.entry_kernel g q l e) m in
              let y = one n (in_cons n) in
              let z : length g.rules + q ≡ item_of x = omega (arith, y) in
              subst (Known g) z (known_entry g q (entry_of_lem q l e).1)

          go : (q ≤ length (entry_strings g)) ⊎ lalr.Reached g q → Formed g (kernel_of g q)
          go (inl e) = record { rising = lalr.kernels_rising g q l h; known = of_entry e }
          go (inr r) = subst (Formed g) (sym r.kernel) (move_formed (kernel_of g r.from) r.symbol)

      pub state_reached : (n q : ℕ) → q ≤ n → 1 ≤ q → q ≤ length (states g) → Reached g (items g (kernel_of g q))
      state_reached zero q b l h = absurd (omega (arith, b, l))
      state_reached (suc n) q b l h = go (lalr.entry_or g q h) (state_reached n)
        where
          go : (q ≤ length (entry_strings g)) ⊎ lalr.Reached g q
              → ((p : ℕ) → p ≤ n → 1 ≤ p → p ≤ length (states g) → Reached g (items g (kernel_of g p))) → Reached g (items g (kernel_of g q))
          go (inl e) rec =
              let v = entry_of_lem q l e in
              subst (Reached g) (sym (entry-items q v.1)) (from_entry (entry_line g (bare g) refl q v.1).3)
          go (inr r) rec =
              let k = kernel_of g r.from in
              let X = r.symbol in
              subst (λ (m : Kernel). Reached g (items g m)) (sym r.kernel)
              (from_move (rec r.from (omega (arith, r.earlier, b)) r.low (omega (arith, r.earlier, h)))
              (moved_to g k (move_only g k X r.some_item.0 r.some_item.1)) (move-items g W few k X)
              (items_once g (move g k X) (move_formed k X)))

      formed : (k : Kernel) → In k (states g) → Formed g k
      formed = by_number (Formed g) kernel_formed

      each_reached : (k : Kernel) → In k (states g) → Reached g (items g k)
      each_reached = by_number (λ (k : Kernel). Reached g (items g k)) (λ q l h. state_reached q q (omega arith) l h)

      all_states : States g (map (items g) (states g))
      all_states = record {
        reached = λ K m. let r = in_map (items g) (states g) m in subst (Reached g) (sym r.2) (each_reached r.0 r.1);
        different = once_map ◌≡◌ Same (items g) (states g) (λ k h m n. items_apart g k h (formed k m) (formed h n))
            (distinct_once (states g) (lalr.states_distinct g));
      }

    -- past the limits there are too many
    pub too_many : (Within g → ⊥) → TooMany g
    too_many f = go (dec_le (length (entry_strings g)) 127) (dec_le (length (states g)) 255)
      where
        go : Dec (length (entry_strings g) ≤ 127) → Dec (length (states g) ≤ 255) → TooMany g
        go (no e) s = kernels.entries (entry_strings g) (strings_wanted g) (distinct_once (entry_strings g) (strings_distinct g)) (omega (arith, e))
        go (yes e) (no s) = kernels.states (map (items g) (states g)) (all_states e) (omega (arith, s, length-map (states g) (items g)))
        go (yes e) (yes s) =
            let l : total (states g) ≤ 1023 → ⊥ = λ l. f (record { few_entries = e; few_states = s; few_lines = l }) in
            kernels.kernel_lines (map (items g) (states g)) (all_states e) (omega (arith, l, weigh_items (states g)))

    pub kept : WithinLimits g → Within g
    kept h = go (within? g)
      where
        go : Dec (Within g) → Within g
        go (yes w) = w
        go (no f) = absurd (h (too_many f))

    -- ---- within the limits every kernel set that is reached is a state's

    module _ (w : Within g) where
      same_list : {K H : List Dotted} → K ≡ H → Same K H
      same_list e a = (subst (λ (l : List Dotted). In a l) e, subst (λ (l : List Dotted). In a l) (sym e))

      pub record Stands (K : List Dotted) : Type 0 where
        pub state : ℕ
        pub low : 1 ≤ state
        pub high : state ≤ length (states g)
        pub same : Same K (items g (kernel_of g state))

      pub stands : {K : List Dotted} → Reached g K → Stands K
      stands (from_entry u) =
          let r = in_at (wanted_string g u) in
          let e = entry_at_lem g (bare g) refl r.0 r.1 in
          let l = entry_line g (bare g) refl (suc r.0) e in
          record { state = suc r.0; low = l.1; high = omega (arith, l.2, lalr.more_states g); same = same_list (sym (entry-items (suc r.0) e)) }
      stands {K = K} (from_move {H = H} {X = X} {a = a} r m only once) = go (stands r)
        where
          go : Stands H → Stands K
          go s =
              let k = kernel_of g s.state in
              let b = moved_from g k (moved_over g s.same m) in
              let t = lalr.goes_to_lem g (limits g W w) s.state X b.0 b.1 s.low s.high b.3 in
              let n = move-items g W w.few_entries k X in
              let back : Same (items g k) H = λ c. ((s.same c).1, (s.same c).0) in
              let e = same_list (ap (items g) t.kernel) in
              record {
                state = goto g s.state X;
                low = t.low;
                high = t.high;
                same = λ c. (λ i. (e c).1 ((n c).1 (moved_over g s.same ((only c).0 i))), λ i. (only c).1 (moved_over g back ((n c).0 ((e c).0 i))));
              }

      -- the states of different kernel sets
      record Chosen (Ks : List (List Dotted)) : Type 0 where
        chosen : List Kernel
        once : Once ◌≡◌ chosen
        some_state : (k : Kernel) → In k chosen → In k (states g)
        some_set : (k : Kernel) → In k chosen → (K : List Dotted) × In K Ks × Same K (items g k)
        as_many : length Ks ≡ length chosen
        as_heavy : sum (map length Ks) ≤ sum (map length chosen)

      choose : (Ks : List (List Dotted)) → ((K : List Dotted) → In K Ks → Reached g K) → Once Same Ks → Chosen Ks
      choose [] reached o = record {
        chosen = [];
        once = tt;
        some_state = λ k m. elim m [ ];
        some_set = λ k m. elim m [ ];
        as_many = refl;
        as_heavy = omega arith;
      }
      choose (K ∷ Ks) reached o = go (stands (reached K here)) (choose Ks (λ H m. reached H (there m)) o.1)
        where
          go : Stands K → Chosen Ks → Chosen (K ∷ Ks)
          go s c =
              let k = kernel_of g s.state in
              record {
                chosen = k ∷ c.chosen;
                once = (
                  λ h m e. let r = c.some_set h m in
                      o.0 r.0 r.1 (λ a. (λ i. (r.2 a).1 ((same_list (ap (items g) e) a).0 ((s.same a).0 i)), λ i. (s.same a).1 ((same_list (ap (items g) e) a).1 ((r.2 a).0 i)))),
                  c.once,
                );
                some_state = λ h m. state_in h (in_cons m);
                some_set = λ h m. set_in h (in_cons m);
                as_many = ap suc c.as_many;
                as_heavy =
                    let n = no_longer K (items g k) (reached_once (reached K here)) (λ a. (s.same a).0) in
                    omega (arith, c.as_heavy, n, length-map k (dotted g));
              }
            where
              state_in : (h : Kernel) → (h ≡ kernel_of g s.state) ⊎ In h c.chosen → In h (states g)
              state_in h (inl e) = subst (λ (k : Kernel). In k (states g)) (sym e) (in_states s.state s.low s.high)
              state_in h (inr m) = c.some_state h m

              set_in : (h : Kernel) → (h ≡ kernel_of g s.state) ⊎ In h c.chosen → (H : List Dotted) × In H (K ∷ Ks) × Same H (items g h)
              set_in h (inl e) = (K, here, subst (λ (k : Kernel). Same K (items g k)) (sym e) s.same)
              set_in h (inr m) = let r = c.some_set h m in (r.0, there r.1, r.2)

      pub not_many : WithinLimits g
      not_many (kernels.entries γs wanted once l) =
          omega (arith, l, w.few_entries, no_longer γs (entry_strings g) once (λ γ m. wanted_string g (wanted γ m)))
      not_many (kernels.states Ks S l) =
          let c = choose Ks S.reached S.different in
          omega (arith, l, w.few_states, c.as_many, no_longer c.chosen (states g) c.once c.some_state)
      not_many (kernels.kernel_lines Ks S l) =
          let c = choose Ks S.reached S.different in
          omega (arith, l, w.few_lines, c.as_heavy, no_heavier length c.chosen (states g) c.once c.some_state, total_is (states g))
