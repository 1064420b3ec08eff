-- The events of a derivation, in the order in which a left-corner walk meets them. Closing a group is an event too: it makes a
-- trace decodable, which a listing is not under left recursion.
use Rattle.std.specs.Prelude.{ℕ, List, [], ◌∷◌, ◌++◌, length, take, drop}
use Rattle.std.proofs.Math.Option.{Option, some, none}
use Rattle.language.specs.Grammar.{Grammar, Rule, rule_at}
use Rattle.language.specs.Derivation.{Tree, Forest, leaf, node, nil, cons}

pub data Event : Type 0 where
  shifted : ℕ → Event
  announced : ℕ → Event
  closed : Event

-- what an event adds to the listing
abbrev pub rules_of : Event → List ℕ
rules_of (shifted a) = []
rules_of (announced i) = i ∷ []
rules_of closed = []

-- traces one after the other
abbrev pub flat : List (List Event) → List Event
flat [] = []
flat (l ∷ ls) = l ++ flat ls

-- of the traces of what is right of the recognition point: each group's, then its closing
abbrev pub closings : List (List ℕ) → List (List Event) → List Event
closings [] ls = []
closings (γ ∷ γs) ls = flat (take (length γ) ls) ++ closed ∷ closings γs (drop (length γ) ls)

-- a node's trace from those of its subtrees
abbrev pub weave : Option Rule → ℕ → List (List Event) → List Event
weave none i ls = []
weave (some r) i ls = flat (take (length r.before) ls) ++ announced i ∷ closings r.groups (drop (length r.before) ls)

module _ (g : Grammar) where
  abbrev mutual
    pub trace : Tree → List Event
    trace (leaf a) = shifted a ∷ []
    trace (node i F) = weave (rule_at g i) i (traces F)

    pub traces : Forest → List (List Event)
    traces nil = []
    traces (cons T F) = trace T ∷ traces F
