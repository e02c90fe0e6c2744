-- What the stored pages stand for: a tree of leaves, and of a thousand frames in each.
use Rattle.std.specs.Prelude.{ℕ, Bool, false, bit_and, bit_or, ◌==◌, zero, suc, ◌+◌, ◌/◌, ◌%◌, ◌^◌, List, [], ◌∷◌, Option, Some, None, if◌then◌else◌, ◌≡◌, ◌≢◌, ◌<◌, ◌≤◌, IsSome, slice_get, slice_index, slice_set}
use Rattle.std.specs.Option.{option_map}
use Rattle.std.specs.FinMap as map
use Rattle.page_set.specs.Pages.{Page, PageMap, WellFormed, zero_page}
use Rattle.page_set.specs.declared.frame.Frame.{Frame}
use Rattle.page_set.specs.declared.frame.Leaf.{Leaf}
use Rattle.std.specs.declared.boxed.Box.{Box}
use Rattle.std.specs.declared.alloc.Global.{Global}

abbrev pub Tree : Type 0
Tree = List (Option (Box Leaf Global))

abbrev pub page_of : Frame → Page
page_of frame = record { bytes = frame.bytes; rights = frame.rights }

-- what a place holds, none past the end
abbrev pub content_of : {A : Type 0} → Option (Option (Box A Global)) → Option A
content_of None = None
content_of (Some None) = None
content_of (Some (Some b)) = Some b.value

abbrev pub leaf_at : Tree → ℕ → Option Leaf
leaf_at tree number = content_of (slice_get tree number)

abbrev pub frame_in : Option Leaf → ℕ → Option Frame
frame_in None number = None
frame_in (Some leaf) number = content_of (slice_get leaf.frames number)

-- the low ten bits of a page's number find it in its leaf, and the others find the leaf
abbrev pub frame_at : Tree → ℕ → Option Frame
frame_at tree page = frame_in (leaf_at tree (page / 1024)) (page % 1024)

abbrev pub page_at : Tree → ℕ → Option Page
page_at tree page = option_map page_of (frame_at tree page)

-- the map of a function below a number
abbrev pub with_page : PageMap → ℕ → Option Page → PageMap
with_page pages n None = pages
with_page pages n (Some page) = map.insert pages n page

unfoldable pub map_below : (ℕ → Option Page) → ℕ → PageMap
map_below f zero = map.empty
map_below f (suc n) = with_page (map_below f n) n (f n)

-- the pages whose frames a function gives
abbrev pub pages_by : (ℕ → Option Frame) → PageMap
pages_by frames = map_below (λ page. option_map page_of (frames page)) (2 ^ 20)

abbrev pub pages_of : Tree → PageMap
pages_of tree = map_below (page_at tree) (2 ^ 20)

-- the pages are as a set of pages is, and so many
pub record IsCounted (count : ℕ) (pages : PageMap) : Type 0 where
  pub counted : count ≡ map.len pages
  pub well_formed : WellFormed pages

-- a leaf with another frame, or none, at one place
pub record IsEditedLeaf (old new : Leaf) (number : ℕ) (frame : Option Frame) : Type 0 where
  pub here : frame_in (Some new) number ≡ frame
  pub others : (j : ℕ) → j ≢ number → frame_in (Some new) j ≡ frame_in (Some old) j

-- a tree with another frame, or none, at one page
pub record IsEdited (old new : Tree) (page : ℕ) (frame : Option Frame) : Type 0 where
  pub here : frame_at new page ≡ frame
  pub others : (q : ℕ) → q ≢ page → frame_at new q ≡ frame_at old q

-- every leaf that was there is there
pub record LeavesStay (old new : Tree) : Type 0 where
  pub each : (n : ℕ) → IsSome (leaf_at old n) → IsSome (leaf_at new n)

-- equal frames
pub record IsSameLeaf (old new : Leaf) : Type 0 where
  pub same : (j : ℕ) → frame_in (Some new) j ≡ frame_in (Some old) j

-- no frame of a leaf from a place on
pub record NoFrameFrom (leaf : Leaf) (from : ℕ) : Type 0 where
  pub none : (j : ℕ) → from ≤ j → frame_in (Some leaf) j ≡ None

-- the first frame from a place on
pub record IsNextFrame (leaf : Leaf) (from place : ℕ) : Type 0 where
  pub above : from ≤ place
  pub inside : place < 1024
  pub there : IsSome (frame_in (Some leaf) place)
  pub between : (j : ℕ) → from ≤ j → j < place → frame_in (Some leaf) j ≡ None

-- no page from one on up to another is mapped
pub record NoPageIn (pages : PageMap) (from end : ℕ) : Type 0 where
  pub none : (q : ℕ) → from ≤ q → q < end → map.get pages q ≡ None

-- the pages without those of a list, the last taken out first
abbrev pub without_all : PageMap → List ℕ → PageMap
without_all pages [] = pages
without_all pages (page ∷ more) = map.remove (without_all pages more) page

-- a page of zeros where there is none
abbrev pub filled_page : ℕ → PageMap → ℕ → Option Page → PageMap
filled_page rights pages page None = map.insert pages page (zero_page rights)
filled_page rights pages page (Some _) = pages

abbrev pub with_filled : ℕ → PageMap → ℕ → PageMap
with_filled rights pages page = filled_page rights pages page (map.get pages page)

-- ---- one frame

abbrev pub grants : ℕ → Frame → Bool
grants right f = bit_and f.rights right == right

abbrev pub has_right : ℕ → Option Frame → Bool
has_right right None = false
has_right right (Some f) = grants right f

-- n items of a list from a place on
abbrev pub part : ℕ → List ℕ → ℕ → List ℕ
part zero bytes at = []
part (suc n) bytes at = slice_index bytes at ∷ part n bytes (at + 1)

-- the list after some are set from a place on
abbrev pub set_part : List ℕ → ℕ → List ℕ → List ℕ
set_part bytes at [] = bytes
set_part bytes at (b ∷ bs) = set_part (slice_set bytes at b) (at + 1) bs

abbrev pub written : ℕ → List ℕ → Frame → Frame
written at bs f = record f { bytes = set_part f.bytes at bs }

abbrev pub with_rights : ℕ → Frame → Frame
with_rights rights f = record f { rights = bit_or f.rights rights }

-- an edit of a frame that has the right
abbrev pub edited : ℕ → (Frame → Frame) → Option Frame → Option Frame
edited right edit None = None
edited right edit (Some f) = if grants right f then Some (edit f) else Some f
