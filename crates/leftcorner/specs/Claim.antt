-- What demand 3 says of one list of tokens, over the definitions of Machine.antt and of crate `language`.
use Rattle.std.specs.Prelude.{◌↔◌}
use Rattle.std.specs.Prelude.{ℕ, zero, suc, ◌≤◌, ◌<◌, ◌≡◌, ◌⊎◌, List, [], ◌∷◌, ◌++◌, length, take, drop}
use Rattle.std.proofs.Math.Option.{some}
use Rattle.language.specs.Grammar.{Grammar, Rule, rule_at}
use Rattle.language.specs.Derivation.{Tree, yield, IsTree}
use Rattle.language.specs.Listing.{listing, units, units_in}
use Rattle.language.specs.Sentence.{Sentence, BeginsSentence}
use Rattle.language.specs.First.{next}
use Rattle.leftcorner.specs.Machine.{Automaton, announce, pop, Event, on, rules_of, to_come, taken, step, start, Ending, accepted, failed, Walk, Verdict, whole_at, wrong_at, short_at, walk}

-- the scans before p begin a sentence; with the scan found there they begin none, or the scans end there and are none
pub data WrongAt (g : Grammar) (w : List ℕ) (p : ℕ) : Type 0 where
  at_token : p < length w → BeginsSentence g (take p w) → (BeginsSentence g (take (suc p) w) → ⊥) → WrongAt g w p
  at_end : p ≡ length w → BeginsSentence g w → (Sentence g w → ⊥) → WrongAt g w p

-- what a walk that has enough comes back with
abbrev pub comes_back : Ending → ℕ → List ℕ → Verdict
comes_back accepted count l = whole_at count l
comes_back (failed p) count l = wrong_at p

module _ (g : Grammar) (m : Automaton) where
  -- by a number of steps the walk over w comes to stack S with v to come, p tokens taken and l announced, and every stack
  -- and listing on the way, these too, fits n and k places
  pub data Within (n k : ℕ) (w : List ℕ) : List ℕ → List ℕ → ℕ → List ℕ → Type 0 where
    begins : length (start g m) ≤ n → Within n k w (start g m) w zero []
    steps : {S U v l : List ℕ} {e : Event} {p : ℕ} → Within n k w S v p l → step g m S (next v 0) ≡ on e U → length U ≤ n → length (l ++ rules_of e) ≤ k
        → Within n k w U (to_come e v) (taken e p) (l ++ rules_of e)

  -- the first step that outgrows n or k places comes with p tokens taken
  pub data Outgrows (n k : ℕ) (w : List ℕ) : ℕ → Type 0 where
    at_start : n < length (start g m) → Outgrows n k w zero
    at_step : {S U v l : List ℕ} {e : Event} {p : ℕ} → Within n k w S v p l → step g m S (next v 0) ≡ on e U
        → (n < length U) ⊎ (k < length (l ++ rules_of e)) → Outgrows n k w p

  -- on this code no announce or pop goes below the bottom of the stack, and no goto is missing
  pub record Safe (S : List ℕ) (c : ℕ) : Type 0 where
    pub announces : (i : ℕ) (es : List ℕ) → m.cell (next S 0) c ≡ announce i es
        → (r : Rule) × (q : ℕ) × (ρ : List ℕ) × (rule_at g i ≡ some r) × (drop (length r.before) S ≡ q ∷ ρ) × (1 ≤ m.goto q r.left)
    pub pops : (n : ℕ) → m.cell (next S 0) c ≡ pop n → n ≤ length S

  -- demand 3 for one list of tokens
  pub record Claim (w : List ℕ) : Type 0 where
    pub ending : Ending
    pub stack_need : ℕ
    pub listed : List ℕ
    -- the walk ends, whole or wrong: "Every session, sentence or not, has lengths, as whole numbers, that are just enough"
    pub ends : Walk g m (start g m) w zero ending stack_need listed
    -- "lent enough listing and stack, the session comes back whole or wrong"
    pub enough : (n k : ℕ) → stack_need ≤ n → length listed ≤ k → walk g m n k w ≡ comes_back ending (length w) listed
    -- "lent less in either, it is a short slip", at the tokens taken at the first step that outgrows
    pub short : (n k : ℕ) → (n < stack_need) ⊎ (k < length listed) → (p : ℕ) × (walk g m n k w ≡ short_at p) × Outgrows n k w p
    -- "it comes back whole exactly when the scans are a sentence of the grammar"
    pub whole_exactly : (ending ≡ accepted) ↔ Sentence g w
    -- "the sentence then has one derivation only, and the listing and unit count handed over are that derivation's"
    pub one_derivation : (T U : Tree) → IsTree g T g.goal → IsTree g U g.goal → yield T ≡ w → yield U ≡ w → T ≡ U
    pub its_listing : (T : Tree) → IsTree g T g.goal → yield T ≡ w → (listed ≡ listing g T) × (units_in g listed ≡ units g T)
    -- "It comes back wrong at a place exactly when [..]"
    pub wrong_exactly : (p : ℕ) → (ending ≡ failed p) ↔ WrongAt g w p
    -- whatever foreign lookaheads hold
    pub safe : (n k p : ℕ) (S v l : List ℕ) → Within n k w S v p l → Safe S (next v 0)
    -- what a walk has taken begins a sentence, however far it has come
    pub viable : (n k p : ℕ) (S v l : List ℕ) → Within n k w S v p l → BeginsSentence g (take p w)
