-- What the scan over the kinds tells.
use Rattle.std.proofs.Common.{◌≡◌, ◌⊎◌, inl, inr, ℕ, cond, Bool, true, false, Option, Some, None, refl, subst}
use Rattle.std.specs.Prelude.{is_some}
use Rattle.node_core.specs.declared.rotation.Kind.{Kind}
use Rattle.node_core.specs.declared.rotation.Kind.TheVariants.{Retry, Context, Line, Half}
use Rattle.node_core.specs.declared.rotation.Ready.{Ready}
use Rattle.node_core.specs.Rotation.{kind_after, if_ready, taken_at, or_else, picked}

-- this kind has something to do
abbrev pub ReadyFor : Ready → Kind → Type 0
ReadyFor r Retry = r.retry ≡ true
ReadyFor r Context = is_some r.context ≡ true
ReadyFor r Line = r.line ≡ true
ReadyFor r Half = (r.half ≡ true) ⊎ (r.late ≡ true)

same_kind : (P : Kind → Type 0) (a b : Kind) → Some a ≡ Some b → P a → P b
same_kind P a b e x = let s : a ≡ b = cc in subst P s x

if_taken : (r : Ready) (b : Bool) (k kind : Kind) → (b ≡ true → ReadyFor r k) → if_ready b k ≡ Some kind → ReadyFor r kind
if_taken r true k kind f e = same_kind (ReadyFor r) k kind e (f refl)
if_taken r false k kind f e = absurd cc

taken_ready : (r : Ready) (k kind : Kind) → taken_at k r ≡ Some kind → ReadyFor r kind
taken_ready r Retry kind e = if_taken r r.retry Retry kind (λ h. h) e
taken_ready r Context kind e = go r.late refl e
  where
    go : (b : Bool) → r.late ≡ b → cond b (Some Half) (if_ready (is_some r.context) Context) ≡ Some kind → ReadyFor r kind
    go true l f = same_kind (ReadyFor r) Half kind f (inr l)
    go false l f = if_taken r (is_some r.context) Context kind (λ h. h) f
taken_ready r Line kind e = if_taken r r.line Line kind (λ h. h) e
taken_ready r Half kind e = if_taken r r.half Half kind (λ h. inl h) e

or_taken : (a b : Option Kind) (kind : Kind) → or_else a b ≡ Some kind → (a ≡ Some kind) ⊎ (b ≡ Some kind)
or_taken None b kind e = inr e
or_taken (Some k) b kind e = inl e

-- the kind that is picked has something to do
pub picked_ready : (last kind : Kind) (r : Ready) → picked last r ≡ Some kind → ReadyFor r kind
picked_ready last kind r e = first (or_taken (taken_at (kind_after last) r) _ kind e)
  where
    third : (taken_at (kind_after (kind_after (kind_after last))) r ≡ Some kind) ⊎ (taken_at (kind_after (kind_after (kind_after (kind_after last)))) r ≡ Some kind) → ReadyFor r kind
    third (inl f) = taken_ready r _ kind f
    third (inr f) = taken_ready r _ kind f

    second : (taken_at (kind_after (kind_after last)) r ≡ Some kind) ⊎ (or_else (taken_at (kind_after (kind_after (kind_after last))) r) (taken_at (kind_after (kind_after (kind_after (kind_after last)))) r) ≡ Some kind) → ReadyFor r kind
    second (inl f) = taken_ready r _ kind f
    second (inr f) = third (or_taken (taken_at (kind_after (kind_after (kind_after last))) r) _ kind f)

    first : (taken_at (kind_after last) r ≡ Some kind) ⊎ (or_else (taken_at (kind_after (kind_after last)) r) (or_else (taken_at (kind_after (kind_after (kind_after last))) r) (taken_at (kind_after (kind_after (kind_after (kind_after last)))) r)) ≡ Some kind) → ReadyFor r kind
    first (inl f) = taken_ready r _ kind f
    first (inr f) = second (or_taken (taken_at (kind_after (kind_after last)) r) _ kind f)

-- a context runs on only where no half is due since sixteen quanta
taken_early : (r : Ready) (k : Kind) → taken_at k r ≡ Some Context → r.late ≡ false
taken_early r Retry e = if_other r.retry Retry e
  where
    if_other : (b : Bool) (k : Kind) → if_ready b Retry ≡ Some Context → r.late ≡ false
    if_other true k f = absurd cc
    if_other false k f = absurd cc
taken_early r Context e = go r.late refl e
  where
    go : (b : Bool) → r.late ≡ b → cond b (Some Half) (if_ready (is_some r.context) Context) ≡ Some Context → r.late ≡ false
    go true l f = absurd cc
    go false l f = l
taken_early r Line e = if_other r.line e
  where
    if_other : (b : Bool) → if_ready b Line ≡ Some Context → r.late ≡ false
    if_other true f = absurd cc
    if_other false f = absurd cc
taken_early r Half e = if_other r.half e
  where
    if_other : (b : Bool) → if_ready b Half ≡ Some Context → r.late ≡ false
    if_other true f = absurd cc
    if_other false f = absurd cc

pub picked_early : (last : Kind) (r : Ready) → picked last r ≡ Some Context → r.late ≡ false
picked_early last r e = first (or_taken (taken_at (kind_after last) r) _ Context e)
  where
    third : (taken_at (kind_after (kind_after (kind_after last))) r ≡ Some Context) ⊎ (taken_at (kind_after (kind_after (kind_after (kind_after last)))) r ≡ Some Context) → r.late ≡ false
    third (inl f) = taken_early r _ f
    third (inr f) = taken_early r _ f

    second : (taken_at (kind_after (kind_after last)) r ≡ Some Context) ⊎ (or_else (taken_at (kind_after (kind_after (kind_after last))) r) (taken_at (kind_after (kind_after (kind_after (kind_after last)))) r) ≡ Some Context) → r.late ≡ false
    second (inl f) = taken_early r _ f
    second (inr f) = third (or_taken (taken_at (kind_after (kind_after (kind_after last))) r) _ Context f)

    first : (taken_at (kind_after last) r ≡ Some Context) ⊎ (or_else (taken_at (kind_after (kind_after last)) r) (or_else (taken_at (kind_after (kind_after (kind_after last))) r) (taken_at (kind_after (kind_after (kind_after (kind_after last)))) r)) ≡ Some Context) → r.late ≡ false
    first (inl f) = taken_early r _ f
    first (inr f) = second (or_taken (taken_at (kind_after (kind_after last)) r) _ Context f)

-- nothing has anything to do
pub record NoneReady (r : Ready) : Type 0 where
  pub retry : r.retry ≡ false
  pub context : r.context ≡ None
  pub line : r.line ≡ false
  pub half : r.half ≡ false

if_none : (b : Bool) (k : Kind) → if_ready b k ≡ None → b ≡ false
if_none true k e = absurd cc
if_none false k e = refl

or_none : (a b : Option Kind) → or_else a b ≡ None → (a ≡ None) × (b ≡ None)
or_none None b e = (refl, e)
or_none (Some k) b e = absurd cc

none_of : (o : Option ℕ) → is_some o ≡ false → o ≡ None
none_of None e = refl
none_of (Some x) e = absurd cc

none_context : (r : Ready) → taken_at Context r ≡ None → r.context ≡ None
none_context r e = go r.late e
  where
    go : (b : Bool) → cond b (Some Half) (if_ready (is_some r.context) Context) ≡ None → r.context ≡ None
    go true f = absurd cc
    go false f = none_of r.context (if_none (is_some r.context) Context f)

all_none : (r : Ready) → taken_at Retry r ≡ None → taken_at Context r ≡ None → taken_at Line r ≡ None → taken_at Half r ≡ None → NoneReady r
all_none r a b c d = record { retry = if_none r.retry Retry a; context = none_context r b; line = if_none r.line Line c; half = if_none r.half Half d }

pub none_picked : (last : Kind) (r : Ready) → picked last r ≡ None → NoneReady r
none_picked Retry r e = let a = or_none (taken_at Context r) _ e in let b = or_none (taken_at Line r) _ a.1 in let c = or_none (taken_at Half r) _ b.1 in all_none r c.1 a.0 b.0 c.0
none_picked Context r e = let a = or_none (taken_at Line r) _ e in let b = or_none (taken_at Half r) _ a.1 in let c = or_none (taken_at Retry r) _ b.1 in all_none r c.0 c.1 a.0 b.0
none_picked Line r e = let a = or_none (taken_at Half r) _ e in let b = or_none (taken_at Retry r) _ a.1 in let c = or_none (taken_at Context r) _ b.1 in all_none r b.0 c.0 c.1 a.0
none_picked Half r e = let a = or_none (taken_at Retry r) _ e in let b = or_none (taken_at Context r) _ a.1 in let c = or_none (taken_at Line r) _ b.1 in all_none r a.0 b.0 c.0 c.1
