-- Segments before one that fills a page do not show on it.
use Rattle.std.proofs.Common.{◌≡◌, ℕ, zero, suc, ◌+◌, ◌*◌, ◌<◌, ◌≤◌, List, [], ◌∷◌, refl, ap, ◌∙◌, sym, arith, Bool, true, false, cond, ◌&&◌, nat_le, nat_lt, length, drop, get_or}
use Rattle.std.proofs.lemmas.Bool.Decides.{nat_tests}
use Rattle.std.proofs.lemmas.List.{drop_more}
use Rattle.elf_load.specs.declared.image.Header.{Header}
use Rattle.elf_load.specs.Image.{is_load, end_of, contains, segment_byte, placed_byte}
use Rattle.elf_load.specs.Parts.{covers, IsSeenFrom}

pub seen_whole : (hs : List Header) (page : ℕ) → IsSeenFrom hs page 0
seen_whole hs page = record { within = omega arith; same = λ file k b lt. refl }

inside : (load : Bool) (addr end first k : ℕ) → k < 4096 → (load && (nat_le addr first && nat_le (first + 4096) end)) ≡ true → (load && (nat_le addr (first + k) && nat_lt (first + k) end)) ≡ true
inside load addr end first k lt e = grind (arith, nat_tests)

-- what a segment that contains an address places there does not hang on what was there
placed_over : (file : List ℕ) (h : Header) (hs : List Header) (addr a b : ℕ) → contains h addr ≡ true → placed_byte file (h ∷ hs) addr a ≡ placed_byte file (h ∷ hs) addr b
placed_over file h hs addr a b e = ap (λ c. placed_byte file hs addr (cond c (segment_byte file h addr) a)) e ∙ sym (ap (λ c. placed_byte file hs addr (cond c (segment_byte file h addr) b)) e)

placed_same : (file : List ℕ) (hs : List Header) (i : ℕ) (d : Header) (addr b c : ℕ) → i < length hs → contains (get_or hs i d) addr ≡ true → placed_byte file (drop i hs) addr c ≡ placed_byte file hs addr b
placed_same file [] i d addr b c lt e = absurd (omega arith)
placed_same file (h ∷ hs) zero d addr b c lt e = placed_over file h hs addr c b e
placed_same file (h ∷ hs) (suc i) d addr b c lt e = placed_same file hs i d addr (cond (contains h addr) (segment_byte file h addr) b) c (omega arith) e

pub seen_from : (hs : List Header) (page i : ℕ) (d : Header) → i < length hs → covers (get_or hs i d) page ≡ true → IsSeenFrom hs page i
seen_from hs page i d lt c =
    let h = get_or hs i d in
    record {
      within = omega arith;
      same = λ file k b less. placed_same file hs i d (page * 4096 + k) b b lt (inside (is_load h) h.addr (end_of h) (page * 4096) k less c);
    }

pub seen_bytes : (hs : List Header) (page first : ℕ) (file : List ℕ) (k b : ℕ) → IsSeenFrom hs page first → k < 4096 → placed_byte file (drop first hs) (page * 4096 + k) b ≡ placed_byte file hs (page * 4096 + k) b
seen_bytes hs page first file k b s lt = s.same file k b lt
