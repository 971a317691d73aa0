-- The greatest of levels.
use Rattle.std.proofs.Common.{◌≡◌, ℕ, ◌+◌, ◌<◌, List, [], ◌∷◌, ◌++◌, length, get_or, take, Option, None, refl, sym, ap, ◌∙◌}
use Rattle.std.specs.Prelude.{is_some}
use Rattle.std.proofs.lemmas.List.{take_more}
use Rattle.volume4d.specs.declared.slab.Held.{Held}
use Rattle.volume4d.specs.Volume.{Point}
use Rattle.volume4d.specs.Slab.{slab_has, helds_have, top_held, greater, level_where, top_by}
use Rattle.volume4d.proofs.lemmas.Level.{greater_none, top_by-cons, top_by-append, is_some_top}

-- the top of one more
pub top_held_more : (hs : List Held) (i : ℕ) (h : Held) (x : Point) → i < length hs → h ≡ get_or hs i h
    → top_held (take (i + 1) hs) x ≡ greater (top_held (take i hs) x)
    (level_where (slab_has h.slab x) h.priority)
unfolding top_held
top_held_more hs i h x below is =
    ap (top_by (λ g. slab_has g.slab x) (λ g. g.priority))
    (take_more hs i h below ∙ ap (λ g. take i hs ++ g ∷ []) (sym is))
    ∙ top_by-append (λ g. slab_has g.slab x) (λ g. g.priority) (take i hs) (h ∷ [])
    ∙ ap (greater (top_held (take i hs) x)) (top_by-cons (λ g. slab_has g.slab x) (λ g. g.priority) h []
    ∙ greater_none (level_where (slab_has h.slab x) h.priority))

-- a point is held just where it has a level
pub is_some_top_held : (hs : List Held) (x : Point) → is_some (top_held hs x) ≡ helds_have hs x
unfolding top_held
is_some_top_held hs x = is_some_top (λ g. slab_has g.slab x) (λ g. g.priority) hs

pub top_held_none : (x : Point) → None ≡ top_held [] x
unfolding top_held
top_held_none x = refl

-- the step of a loop that keeps the top
pub top_step : (hs : List Held) (i : ℕ) (h : Held) (x : Point) (o top : Option ℕ)
    → i < length hs
    → h ≡ get_or hs i h → o ≡ top_held (take i hs) x → top
    ≡ greater o (level_where (slab_has h.slab x) h.priority) → top ≡ top_held (take (i + 1) hs) x
top_step hs i h x o top below is so_far e =
    e ∙ ap (λ q. greater q (level_where (slab_has h.slab x) h.priority)) so_far
    ∙ sym (top_held_more hs i h x below is)
