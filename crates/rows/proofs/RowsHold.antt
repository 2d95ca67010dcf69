-- All rows hold: the checker computes what each case gives.
use mathlib.Core.List.Memᴰ
use mathlib.Core.List.{List, [], ◌∷◌, map}
use mathlib.Core.Path.{◌≡◌, refl, sym, ap, ◌∙◌}
use lib.ListN.{get_or, drop}
use Rattle.rows.specs.Cases.{Given, Answer, given}
use Rattle.rows.specs.Rows.{Row, rows, Hold}
use Rattle.rows.proofs.Opened.{reads, client_events, server_events}

-- Where the cases of a list give its answers one by one, each row holds.
each : (list : List Row) → map (λ (row : Row). given row.case) list ≡ map (λ (row : Row). row.answer) list → Hold list
each [] same row none = absurd (Memᴰ.not-nil none)
each (first ∷ rest) same row (Memᴰ.head here) =
    ap (λ (r : Row). given r.case) here ∙ (ap (λ (g : List Given). get_or g 0 (Answer 0)) same ∙ ap (λ (r : Row). r.answer) (sym here))
each (first ∷ rest) same row (Memᴰ.tail later) = each rest (ap (drop 1) same) row later

pub rows_hold : Hold rows
unfolding rows given reads client_events server_events
rows_hold = each rows refl
