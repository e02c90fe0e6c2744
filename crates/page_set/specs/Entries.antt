-- Cached frames, which were taken out of the tree: sixteen entries, each for the pages whose numbers end in its place.
use Rattle.std.specs.Prelude.{ℕ, ◌/◌, ◌%◌, ◌^◌, ◌<◌, ◌≤◌, ◌≡◌, ◌≢◌, ◌==◌, if◌then◌else◌, Bool, true, false, List, length, Option, Some, None, IsSome}
use Rattle.std.specs.List.{slice_get}
use Rattle.std.specs.Option.{option_map}
use Rattle.page_set.specs.Pages.{PageMap}
use Rattle.page_set.specs.Tree.{Tree, content_of, frame_at, leaf_at, grants, has_right, written, pages_by, IsEdited, LeavesStay}
use Rattle.page_set.specs.declared.frame.Frame.{Frame}
use Rattle.page_set.specs.declared.entry.Entry.{Entry}

abbrev pub frame_of_entry : Entry → Option Frame
frame_of_entry entry = content_of (Some entry.frame)

-- the frame of an entry where it is that of a page, else another one
abbrev pub frame_or : Option Entry → ℕ → Option Frame → Option Frame
frame_or None page other = other
frame_or (Some entry) page other = if entry.readable == page then frame_of_entry entry else other

-- the frame of a page: cached, or in the tree
abbrev pub cached_frame : List Entry → Tree → ℕ → Option Frame
cached_frame entries tree page = frame_or (slice_get entries (page % 16)) page (frame_at tree page)

abbrev pub cached_pages : List Entry → Tree → PageMap
cached_pages entries tree = pages_by (cached_frame entries tree)

-- ---- what holds of the entries

-- an entry of no page
pub record IsBare (readable writable : ℕ) : Type 0 where
  pub unreadable : 2 ^ 20 < readable
  pub unwritable : 2 ^ 20 < writable

-- an entry of a page that can be read, whose place in the tree is kept
pub record IsHeld (tree : Tree) (place readable writable : ℕ) (frame : Frame) : Type 0 where
  pub number : readable < 2 ^ 20
  pub ending : readable % 16 ≡ place
  pub leaf : IsSome (leaf_at tree (readable / 1024))
  pub read : grants 4 frame ≡ true
  pub write : writable ≤ 2 ^ 20 → (writable ≡ readable) × (grants 2 frame ≡ true)

abbrev pub HoldsAs : Tree → ℕ → ℕ → ℕ → Option Frame → Type 0
HoldsAs tree place readable writable None = IsBare readable writable
HoldsAs tree place readable writable (Some frame) = IsHeld tree place readable writable frame

abbrev pub Holds : Tree → ℕ → Entry → Type 0
Holds tree place entry = HoldsAs tree place entry.readable entry.writable (frame_of_entry entry)

pub record AreCached (entries : List Entry) (tree : Tree) : Type 0 where
  pub long : length entries ≡ 16
  pub each : (i : ℕ) (entry : Entry) → slice_get entries i ≡ Some entry → Holds tree i entry

-- ---- accesses

-- a cached page that can be read
pub record IsFound (entries : List Entry) (tree : Tree) (page : ℕ) (frame : Frame) : Type 0 where
  pub there : cached_frame entries tree page ≡ Some frame
  pub read : grants 4 frame ≡ true

-- bytes were written to the page of an entry
pub record IsWritten (page at : ℕ) (bytes : List ℕ) (old new : Entry) : Type 0 where
  pub number : old.writable ≡ page
  pub frame : frame_of_entry new ≡ option_map (written at bytes) (frame_of_entry old)
  pub readable : new.readable ≡ old.readable
  pub writable : new.writable ≡ old.writable

-- bytes were written to the page of an entry, or nothing was
abbrev pub Wrote : Bool → ℕ → ℕ → List ℕ → Entry → Entry → Type 0
Wrote true page at bytes old new = IsWritten page at bytes old new
Wrote false page at bytes old new = new ≡ old

-- the frame of a page is where the tree has it
pub record IsUncached (entries : List Entry) (page : ℕ) : Type 0 where
  pub each : (other : Option Frame) → frame_or (slice_get entries (page % 16)) page other ≡ other

-- ---- into the tree, and out of it

-- frames went into the tree and out of it, and the pages are the same
pub record AreMoved (old : List Entry) (tree : Tree) (new : List Entry) (tree2 : Tree) : Type 0 where
  pub cached : AreCached new tree2
  pub same : cached_pages new tree2 ≡ cached_pages old tree

-- the frame of one entry, if any, went back into the tree
pub record IsPutBack (place : ℕ) (old : List Entry) (tree : Tree) (new : List Entry) (tree2 : Tree) : Type 0 where
  pub cached : AreCached new tree2
  pub same : cached_pages new tree2 ≡ cached_pages old tree
  pub bare : (entry : Entry) → slice_get new place ≡ Some entry → 2 ^ 20 ≤ entry.readable
  pub others : (j : ℕ) → j ≢ place → slice_get new j ≡ slice_get old j

-- so did those of the first entries
pub record ArePutBack (count : ℕ) (old : List Entry) (tree : Tree) (new : List Entry) (tree2 : Tree) : Type 0 where
  pub cached : AreCached new tree2
  pub same : cached_pages new tree2 ≡ cached_pages old tree
  pub bare : (i : ℕ) (entry : Entry) → i < count → slice_get new i ≡ Some entry → 2 ^ 20 ≤ entry.readable

-- the frame of a page that can be read was taken out of the tree
pub record IsTaken (page : ℕ) (old new : Tree) (entry : Entry) : Type 0 where
  pub readable : entry.readable ≡ page
  pub frame : frame_of_entry entry ≡ frame_at old page
  pub read : has_right 4 (frame_at old page) ≡ true
  pub write : entry.writable ≤ 2 ^ 20 → (entry.writable ≡ page) × (has_right 2 (frame_at old page) ≡ true)
  pub leaf : IsSome (leaf_at old (page / 1024))
  pub edited : IsEdited old new page None
  pub leaves : LeavesStay old new
