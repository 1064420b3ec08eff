-- The three steps that go on: what each makes of a position in memory.
use mathlib.Core.Path.{◌≡◌, refl, sym, ap, subst, ◌∙◌}
use mathlib.Core.List.{List, [], ◌∷◌, ◌++◌, append-nil}
use Prim.Native.Nat.{ℕ, zero, suc, ◌+◌, ◌*◌, ◌-◌, ◌%◌, ◌≤◌, ◌<◌}
use native.Mathlib.Numerals.{add-one}
use native.Mathlib.Omega.{arith}
use lib.ListN.{length, get_or, set, drop, take, length-set, length-drop}
use lib.Seq.{length-take-le, take-suc-set, drop-drop, get_or-set_same}
use Rattle.language.specs.Grammar.{Grammar, rule_at}
use Rattle.language.specs.First.{next}
use Rattle.leftcorner.proofs.Bounded.{fits_yes}
use Rattle.leftcorner.specs.Machine.{Automaton, Event, Outcome, on, rules_of, to_come, taken, shift_to, pop_to, tell, Verdict}
use Rattle.walk_tables.specs.declared.Machine.{Machine}
use Rattle.walk_tables.specs.Memory.{figure_of, group_entries, memory_grammar, memory_automaton}
use Rattle.walk_tables.proofs.MemoryLaws.{unit_is}
use Rattle.walk_stack.specs.Stack.{tops, rule_over}
use Rattle.walk_stack.proofs.StackLaws.{tops_push, tops-length, tops-drop, tops_top}
use Rattle.walk_steps.specs.declared.Position.{Position}
use Rattle.walk_steps.specs.declared.Turn.{Turn}
use Rattle.walk_steps.specs.Turn.{lowered_to, steps_left, Stands, Moves, Turned, proceeds}
use Rattle.walk_steps.proofs.TellLaws.{told_on}
use Rattle.walk_steps.proofs.TurnLaws.{shift_on, pop_on, units_snoc}

-- a token or a place of the listing fewer, and the stack within n
fewer : (a b n h h' : ℕ) → suc a ≡ b → h' ≤ n → a * suc n + h' < b * suc n + h
fewer a b n h h' e le = rw (← e) (omega arith)

pub inside : (l : List ℕ) (i : ℕ) → (get_or l i 0 ≡ 0 → ⊥) → i < length l
inside [] i ne = absurd (ne refl)
inside (x ∷ l) zero ne = omega arith
inside (x ∷ l) (suc i) ne = let h : i < length l = inside l i ne in omega arith

module _ (g : Grammar) (m : Automaton) (n k : ℕ) (tokens stack listing : List ℕ) (p : Position) where
  moves : {o : Outcome} {e : Event} {U stack' listing' : List ℕ} {q : Position} → o ≡ on e U → U ≡ tops stack' q.height
      → to_come e (drop p.taken tokens) ≡ drop q.taken tokens → taken e p.taken ≡ q.taken
      → take p.listed listing ++ rules_of e ≡ take q.listed listing' → Stands g n k tokens stack' listing' q
      → steps_left n k tokens q < steps_left n k tokens p → Moves g m n k tokens stack listing p o stack' listing' q
  moves {o} {e} {U} {stack'} {listing'} {q} h eU ew ep el s less =
      let a : length U ≤ n = rw eU (omega (arith, tops-length stack' q.height, s.high)) in
      let b : length (take p.listed listing ++ rules_of e) ≤ k =
      rw el (omega (arith, length-take-le q.listed listing' (omega (arith, s.room, s.listing_long)), s.room)) in
      record {
        stands = s;
        goes = λ again. ap (λ (x : Outcome). proceeds g m n k tokens stack listing p x again) h
            ∙ fits_yes g m n k p.taken U (take p.listed listing ++ rules_of e) _ a b ∙ again_same again eU ew ep el;
        less = less;
      }
    where
      again_same : {a a' b b' d d' : List ℕ} {c c' : ℕ} (again : List ℕ → List ℕ → ℕ → List ℕ → Verdict) → a ≡ a' → b ≡ b' → c ≡ c' → d ≡ d'
          → again a b c d ≡ again a' b' c' d'
      again_same again x y z w = cc

  pub move_shift : (s c : ℕ) → Stands g n k tokens stack listing p → (p.code ≡ 0 → ⊥) → p.height < length stack
      → c ≡ get_or tokens (p.taken + 1) 0
      → Moves g m n k tokens stack listing p (shift_to s (tops stack p.height) p.code) (set stack p.height s) listing
      (record { height = p.height + 1; taken = p.taken + 1; listed = p.listed; units = p.units; top = s; code = c })
  unfolding steps_left
  move_shift s c h ne lt e =
      let more : p.taken < length tokens = inside tokens p.taken (λ z. ne (h.code_is ∙ z)) in
      let one : p.height + 1 - 1 ≡ p.height = omega arith in
      let long : length (set stack p.height s) ≡ length stack = simp length-set in
      moves (shift_on s (tops stack p.height) p.code ne) (sym (tops_push stack p.height s lt)) (drop-drop 1 p.taken tokens) (sym (add-one p.taken))
      (append-nil (take p.listed listing))
      (record {
        stack_long = long ∙ h.stack_long;
        listing_long = h.listing_long;
        started = omega arith;
        high = omega (arith, h.stack_long);
        room = h.room;
        in_tokens = omega arith;
        counted = h.counted;
        top_is = sym (ap (λ (i : ℕ). get_or (set stack p.height s) i 0) one ∙ get_or-set_same stack p.height s 0 lt);
        code_is = e;
      })
      (fewer (k - p.listed + (length tokens - (p.taken + 1))) (k - p.listed + (length tokens - p.taken)) n p.height (p.height + 1) (omega arith) (omega (arith, h.stack_long)))

  pub move_pop : (symbols pops : ℕ) → Stands g n k tokens stack listing p → pops ≡ symbols + 1 → pops < p.height
      → {t : Turn} → t ≡ lowered_to stack (p.height - pops) p
      → Turned g m n k tokens stack listing p (pop_to (drop (suc symbols) (tops stack p.height)) p.code) stack listing t
  unfolding steps_left
  move_pop symbols pops h e lt et =
      let d : drop (suc symbols) (tops stack p.height) ≡ tops stack (p.height - pops) =
      let z : p.height - suc symbols ≡ p.height - pops = omega arith in tops-drop stack (suc symbols) p.height (omega arith) ∙ ap (tops stack) z in
      subst (Turned g m n k tokens stack listing p (pop_to (drop (suc symbols) (tops stack p.height)) p.code) stack listing) (sym et)
      (moves (pop_on (drop (suc symbols) (tops stack p.height)) p.code (omega (arith, length-drop (suc symbols) (tops stack p.height), tops-length stack p.height))) d refl refl
      (append-nil (take p.listed listing))
      (record {
        stack_long = h.stack_long;
        listing_long = h.listing_long;
        started = omega arith;
        high = omega (arith, h.high);
        room = h.room;
        in_tokens = h.in_tokens;
        counted = h.counted;
        top_is = refl;
        code_is = h.code_is;
      })
      (omega arith))

module _ (mem : Machine) (n k : ℕ) (tokens stack listing : List ℕ) (p : Position) where
  pub move_announce : (r pops groups unit height top : ℕ) (stack' : List ℕ) → Stands (memory_grammar mem.rules) n k tokens stack listing p
      → 0 < r → r < 256 → pops ≡ figure_of mem.rules r 0 → pops < p.height → groups ≡ figure_of mem.rules r 3 → unit ≡ figure_of mem.rules r 2 % 2
      → p.listed < length listing → p.height - pops + groups < length stack → height ≡ p.height - pops + 1 + groups
      → length stack' ≡ length stack
      → tops stack' height ≡ rule_over mem.gotos mem.rules r groups (tops stack (p.height - pops)) → top ≡ next (tops stack' height) 0
      → Moves (memory_grammar mem.rules) (memory_automaton mem) n k tokens stack listing p
      (tell (memory_grammar mem.rules) (memory_automaton mem) (rule_at (memory_grammar mem.rules) r) r
      (group_entries mem.rules r (figure_of mem.rules r 3)) (tops stack p.height))
      stack' (set listing p.listed r)
      (record {
        height = height;
        taken = p.taken;
        listed = p.listed + 1;
        units = p.units + unit;
        top = top;
        code = p.code;
      })
  unfolding steps_left
  move_announce r pops groups unit height top stack' h pos small ep lp eg eu slot fit eh es so et =
      let a : drop (figure_of mem.rules r 0) (tops stack p.height) ≡ tops stack (p.height - pops) = rw (← ep) (tops-drop stack pops p.height (omega arith)) in
      let b : rule_over mem.gotos mem.rules r (figure_of mem.rules r 3) (drop (figure_of mem.rules r 0) (tops stack p.height)) ≡ tops stack' height =
      rw (a, ← eg) (sym so) in
      let o : take (p.listed + 1) (set listing p.listed r) ≡ take p.listed listing ++ r ∷ [] =
      rw (add-one) (take-suc-set listing p.listed r slot) in
      let long : length (set listing p.listed r) ≡ length listing = simp length-set in
      moves (memory_grammar mem.rules) (memory_automaton mem) n k tokens stack listing p
      (told_on mem r pos small (tops stack p.height) (omega (arith, tops-length stack p.height))) b refl refl (sym o)
      (record {
        stack_long = es ∙ h.stack_long;
        listing_long = long ∙ h.listing_long;
        started = omega arith;
        high = omega (arith, h.stack_long);
        room = omega (arith, h.listing_long);
        in_tokens = h.in_tokens;
        counted = rw (o, units_snoc, unit_is mem.rules r pos small, ← eu, ← h.counted);
        top_is = et ∙ tops_top stack' height (omega arith);
        code_is = h.code_is;
      })
      (fewer (k - (p.listed + 1) + (length tokens - p.taken)) (k - p.listed + (length tokens - p.taken)) n p.height height
      (omega (arith, h.listing_long)) (omega (arith, h.stack_long)))
