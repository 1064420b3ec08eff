-- The walk of the theory along the loop: it is the walk resumed from the position in memory.
use mathlib.Core.Path.{◌≡◌, refl, sym, ap, subst, ◌∙◌}
use mathlib.Core.List.{List, [], ◌∷◌}
use Prim.Native.Nat.{ℕ, suc, ◌≤◌, ◌<◌}
use native.Mathlib.Omega.{arith}
use lib.ListN.{length, get_or, set, take, drop, length-set}
use lib.Seq.{get_or-set_same, length-take-le}
use Rattle.language.specs.Grammar.{Grammar}
use Rattle.language.specs.First.{next}
use Rattle.leftcorner.proofs.Progress.{PopsSome}
use Rattle.leftcorner.proofs.ReadOff.{clash}
use Rattle.leftcorner.proofs.Resume.{end_place, resume-step, resume-start, walk_place}
use Rattle.leftcorner.specs.Machine.{Verdict, step}
use Rattle.leftcorner.specs.Machine as machine
use Rattle.leftcorner.specs.Resume.{resume}
use Rattle.reply.specs.declared.Kind.TheVariants.{BufferTooSmall, SyntaxError}
use Rattle.walk_tables.specs.declared.Cell.{Cell}
use Rattle.walk_tables.specs.declared.Machine.{Machine}
use Rattle.walk_tables.specs.declared.Cell.TheVariants.{Shift, Announce, Pop, Empty}
use Rattle.walk_tables.specs.Memory.{cell_at, meaning, memory_grammar, memory_automaton}
use Rattle.walk_stack.specs.Stack.{tops}
use Rattle.walk_steps.specs.declared.Position.{Position}
use Rattle.walk_steps.specs.declared.Turn.{Turn}
use Rattle.walk_steps.specs.declared.Turn.TheVariants.{On, Whole, Wrong, Short}
use Rattle.walk_steps.specs.Turn.{Stands, proceeds, Moves, Ends, Turned}
use Rattle.std.specs.Prelude.{Ok, Err}
use Rattle.walker.specs.Walked.{memory_walk, Walked, Ended}

-- a pop in memory takes the entry's state off, whatever its value
pops_some : (mem : Machine) → PopsSome (memory_automaton mem)
unfolding memory_automaton
pops_some mem q c n = go (cell_at mem.kinds mem.values q c)
  where
    go : (x : Cell) → meaning mem.rules x ≡ machine.pop n → 1 ≤ n
    go (Shift s) h = clash cc
    go (Announce r) h = clash cc
    go (Pop i) h = let e : suc i ≡ n = cc in omega (arith, e)
    go Empty h = clash cc

ended_by : {g : Grammar} {u v : Verdict} {w : Walked} {slice : List ℕ} → u ≡ v → Ended g v w slice → Ended g u w slice
ended_by {g} {u} {v} {w} {slice} e h = subst (λ (x : Verdict). Ended g x w slice) (sym e) h

module _ (mem : Machine) (n k : ℕ) (tokens : List ℕ) where
  -- the walk is the walk from position p
  pub record Going (stack listing : List ℕ) (p : Position) : Type 0 where
    pub same : memory_walk mem n k tokens
        ≡ resume (memory_grammar mem.rules) (memory_automaton mem) n k (tops stack p.height) (drop p.taken tokens) p.taken (take p.listed listing)

  -- ---- the start

  module _ (stack listing : List ℕ) (c : ℕ) (some : 0 < length stack) (long : length (set stack 0 mem.start) ≡ n) where
    pub stands_first : length listing ≡ k → c ≡ get_or tokens 0 0
        → Stands (memory_grammar mem.rules) n k tokens (set stack 0 mem.start) listing (record { height = 1; taken = 0; listed = 0; units = 0; top = mem.start; code = c })
    stands_first e ec =
        let l : length (set stack 0 mem.start) ≡ length stack = simp length-set in
        record {
          stack_long = long;
          listing_long = e;
          started = omega arith;
          high = omega (arith, l);
          room = omega arith;
          in_tokens = omega arith;
          counted = refl;
          top_is = sym (get_or-set_same stack 0 mem.start 0 some);
          code_is = ec;
        }

    pub going_first : Going (set stack 0 mem.start) listing (record { height = 1; taken = 0; listed = 0; units = 0; top = mem.start; code = c })
    unfolding memory_walk memory_automaton
    going_first =
        let l : length (set stack 0 mem.start) ≡ length stack = simp length-set in
        record {
          same = resume-start (memory_grammar mem.rules) (memory_automaton mem) n k (pops_some mem) tokens (omega (arith, l))
              ∙ ap (λ (q : ℕ). resume (memory_grammar mem.rules) (memory_automaton mem) n k (q ∷ []) tokens 0 []) (sym (get_or-set_same stack 0 mem.start 0 some));
        }

  -- ---- a step

  module _ (stack listing stack' listing' : List ℕ) (p : Position) (t : Turn)
      (s : Stands (memory_grammar mem.rules) n k tokens stack listing p)
      (h : Turned (memory_grammar mem.rules) (memory_automaton mem) (length stack) (length listing) tokens stack listing p
      (step (memory_grammar mem.rules) (memory_automaton mem) (tops stack p.height) (next (drop p.taken tokens) 0)) stack' listing' t) where
    turned : Turned (memory_grammar mem.rules) (memory_automaton mem) n k tokens stack listing p
        (step (memory_grammar mem.rules) (memory_automaton mem) (tops stack p.height) (next (drop p.taken tokens) 0)) stack' listing' t
    turned = rw (s.stack_long, s.listing_long) at h

    turned_as : {u : Turn} → t ≡ u → Turned (memory_grammar mem.rules) (memory_automaton mem) n k tokens stack listing p
        (step (memory_grammar mem.rules) (memory_automaton mem) (tops stack p.height) (next (drop p.taken tokens) 0)) stack' listing' u
    turned_as e = subst
        (Turned (memory_grammar mem.rules) (memory_automaton mem) n k tokens stack listing p
        (step (memory_grammar mem.rules) (memory_automaton mem) (tops stack p.height) (next (drop p.taken tokens) 0)) stack' listing')
        e turned

    pub moved : {q : Position} → t ≡ On q → Moves (memory_grammar mem.rules) (memory_automaton mem) n k tokens stack listing p
        (step (memory_grammar mem.rules) (memory_automaton mem) (tops stack p.height) (next (drop p.taken tokens) 0)) stack' listing' q
    moved e = turned_as e

    stepped : Going stack listing p → memory_walk mem n k tokens
        ≡ proceeds (memory_grammar mem.rules) (memory_automaton mem) n k tokens stack listing p
        (step (memory_grammar mem.rules) (memory_automaton mem) (tops stack p.height) (next (drop p.taken tokens) 0))
        (resume (memory_grammar mem.rules) (memory_automaton mem) n k)
    stepped g = g.same ∙ resume-step (memory_grammar mem.rules) (memory_automaton mem) n k (pops_some mem)
        (tops stack p.height) (drop p.taken tokens) p.taken (take p.listed listing)

    pub going_on : {q : Position} → t ≡ On q → Going stack listing p → Going stack' listing' q
    going_on e g = record { same = stepped g ∙ (moved e).goes (resume (memory_grammar mem.rules) (memory_automaton mem) n k) }

    -- the walk comes to the verdict that the step ends it with
    ends_walk : {v : Verdict} → Ends (memory_grammar mem.rules) (memory_automaton mem) n k tokens stack listing p
        (step (memory_grammar mem.rules) (memory_automaton mem) (tops stack p.height) (next (drop p.taken tokens) 0)) v
        → Going stack listing p → memory_walk mem n k tokens ≡ v
    ends_walk fin g = stepped g ∙ fin (resume (memory_grammar mem.rules) (memory_automaton mem) n k)

    pub going_wrong : t ≡ Wrong → Going stack listing p
        → Ended (memory_grammar mem.rules) (memory_walk mem n k tokens) (Err (record { kind = SyntaxError; place = p.taken })) listing'
    going_wrong e g = ended_by (ends_walk (turned_as e) g) (record { answered = refl; front = refl; within = omega arith })

    pub going_short : t ≡ Short → Going stack listing p
        → Ended (memory_grammar mem.rules) (memory_walk mem n k tokens) (Err (record { kind = BufferTooSmall; place = p.taken })) listing'
    going_short e g = ended_by (ends_walk (turned_as e) g) (record { answered = refl; front = refl; within = omega arith })

    pub going_whole : t ≡ Whole → Going stack listing p
        → Ended (memory_grammar mem.rules) (memory_walk mem n k tokens)
        (Ok (record { tokens = p.taken; rules = p.listed; units = p.units })) listing'
    going_whole e g =
        let so = turned_as e in
        let fits : p.listed ≤ length listing = omega (arith, s.room, s.listing_long) in
        let len : length (take p.listed listing) ≡ p.listed = length-take-le p.listed listing fits in
        ended_by (ends_walk so.0 g) (rw so.1 (record { answered = rw (len, ← s.counted); front = rw len; within = omega (arith, len, fits) }))

-- a position's slices have their own lengths
pub stands_own : {g : Grammar} {tokens stack listing : List ℕ} {n k : ℕ} {p : Position} → Stands g n k tokens stack listing p
    → Stands g (length stack) (length listing) tokens stack listing p
stands_own s = rw (s.stack_long, s.listing_long) s

pub ended_same : (mem : Machine) (n m k : ℕ) (tokens : List ℕ) {w : Walked} {listing : List ℕ} → n ≡ m
    → Ended (memory_grammar mem.rules) (memory_walk mem n k tokens) w listing
    → Ended (memory_grammar mem.rules) (memory_walk mem m k tokens) w listing
ended_same mem n m k tokens {w} {listing} e h =
    subst (λ (i : ℕ). Ended (memory_grammar mem.rules) (memory_walk mem i k tokens) w listing) e h

-- with no place for the first state
pub ended_first : (mem : Machine) (n k : ℕ) (tokens : List ℕ) {listing : List ℕ} → n ≡ 0
    → Ended (memory_grammar mem.rules) (memory_walk mem n k tokens) (Err (record { kind = BufferTooSmall; place = 0 })) listing
unfolding memory_walk
ended_first mem n k tokens e = rw e (record { answered = refl; front = refl; within = omega arith })

-- no walk ends past its tokens
pub memory_place : (mem : Machine) (n k : ℕ) (tokens : List ℕ) → end_place (memory_walk mem n k tokens) ≤ length tokens
unfolding memory_walk
memory_place mem n k tokens =
    walk_place (memory_grammar mem.rules) (memory_automaton mem) n k (pops_some mem) tokens
