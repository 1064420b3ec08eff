-- An action line comes to the same by its numbers as memory keeps them.
use Prim.Native.Nat.{ℕ}
use mathlib.Core.Path.{◌≡◌, refl, ap}
use mathlib.Core.List.{List, [], ◌∷◌}
use mathlib.Core.Bool.{cond, ◌&&◌}
use lib.Dec.{leb, eqb}
use lib.ListN.{length, get_or}
use Rattle.range.specs.Range.{within}
use Rattle.reply.specs.declared.Kind.TheVariants as kind
use Rattle.leftcorner.specs.Table.{ActionLine, L}
use Rattle.table_order.specs.Order.{follows, action_key}
use Rattle.table_order.specs.Last.{LastIs}
use Rattle.table_order.proofs.LastLaws.{follows_capped}
use Rattle.table_lines.specs.Line.{line_at, on_line, all_at_most, cap, caps, capped}
use Rattle.table_lines.specs.Block.{Outcome, stops, judged, fault}
use Rattle.table_lines.proofs.CapLaws.{caps-length, caps_at, judged-caps, line_caps}
use Rattle.table_actions.specs.Actions.{is_action, action_of, action_declared, judge_action, action_next}

key_caps : {l : List ActionLine} {last : List ℕ} → LastIs action_key last l → (q X : ℕ) → follows action_key l (cap q ∷ cap X ∷ []) ≡ follows action_key l (q ∷ X ∷ [])
key_caps h q X = follows_capped h (q ∷ X ∷ []) (caps (q ∷ X ∷ [])) refl (caps_at (q ∷ X ∷ []))

pub action_capped : (s : List ℕ) (t n rules states at : ℕ) (l : List ActionLine) {last : List ℕ} → LastIs action_key last l
    → action_next s t n rules states at l
    ≡ cond (leb (length s) at) stops (on_line (capped (line_at s at)) (λ letter ns next.
    judged (judge_action t n rules states l letter ns) at (L (get_or ns 0 0) (get_or ns 1 0) (action_of letter (get_or ns 2 0))) next) (fault kind.Malformed at))
unfolding action_next judge_action
action_capped s t n rules states at l h =
    ap (λ (o : Outcome ActionLine). cond (leb (length s) at) stops o)
    (line_caps (λ letter ns next. judged (judge_action t n rules states l letter ns) at (L (get_or ns 0 0) (get_or ns 1 0) (action_of letter (get_or ns 2 0))) next) (fault kind.Malformed at)
    (λ letter ns next. judged-caps
    (λ m. is_action letter && (eqb (length m) 3 && follows action_key l (get_or m 0 0 ∷ get_or m 1 0 ∷ [])))
    (all_at_most 65535)
    (λ m. within 1 (get_or m 0 0) states && action_declared t n rules states letter (get_or m 1 0) (get_or m 2 0))
    (λ m e. e) (λ m. L (get_or m 0 0) (get_or m 1 0) (action_of letter (get_or m 2 0))) at next ns
    (simp (caps-length ns, caps_at ns 0, caps_at ns 1, key_caps h (get_or ns 0 0) (get_or ns 1 0))))
    (line_at s at))
