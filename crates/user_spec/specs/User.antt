-- The state of a user process. It contains no node.
use Rattle.std.specs.Prelude.{ℕ, zero, suc, List, ◌∷◌, slice_index, slice_set, refl}
use Rattle.std.specs.Coded.{Coded, code_by, coded×, coded_ℕ, coded_list}
use Rattle.std.specs.FinMap as map
use Rattle.page_set.specs.Pages.{PageMap, coded_pages}

pub record UserState : Type 0 where
  pub pc : ℕ
  -- x1 to x31
  pub registers : List ℕ
  pub pages : PageMap
  -- where the heap begins, and where it ends
  pub base : ℕ
  pub brk : ℕ
  pub pid : ℕ
  -- how many steps it has made
  pub count : ℕ

-- what register r holds: x0 holds 0
abbrev pub register : List ℕ → ℕ → ℕ
register registers r = slice_index (0 ∷ registers) r

-- the registers after a write: a write to x0 is lost
abbrev pub with_register : List ℕ → ℕ → ℕ → List ℕ
with_register registers zero value = registers
with_register registers (suc r) value = slice_set registers r value

-- the number of pages
abbrev pub need_of_user : UserState → ℕ
need_of_user u = map.len u.pages

-- ---- how states are told apart

abbrev pub Parts : Type 0
Parts = ℕ × (List ℕ × (PageMap × (ℕ × (ℕ × (ℕ × ℕ)))))

abbrev pub coded_parts : Coded Parts
coded_parts = coded× coded_ℕ (coded× (coded_list coded_ℕ) (coded× coded_pages (coded× coded_ℕ (coded× coded_ℕ (coded× coded_ℕ coded_ℕ)))))

abbrev pub coded_user : Coded UserState
coded_user = code_by Parts coded_parts
    (λ u. (u.pc, (u.registers, (u.pages, (u.base, (u.brk, (u.pid, u.count)))))))
    (λ p. record { pc = p.0; registers = p.1.0; pages = p.1.1.0; base = p.1.1.1.0; brk = p.1.1.1.1.0; pid = p.1.1.1.1.1.0; count = p.1.1.1.1.1.1 })
    (λ _. refl)
