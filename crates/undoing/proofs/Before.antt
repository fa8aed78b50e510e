-- The lines of a log's first bytes: whatever stands behind them.
-- Assumes nothing.
use Prim.Native.Nat.{ℕ, zero, suc, ◌+◌, ◌*◌, ◌≤◌, ◌<◌}
use native.Mathlib.Nat.{mul-suc}
use native.Mathlib.Omega.{arith}
use mathlib.Core.Path.{◌≡◌, refl, sym, ap, ap₂, ◌∙◌}
use mathlib.Core.List.{List, [], ◌++◌, append-nil}
use lib.ListN.{length, get_or-append}
use Rattle.layout.specs.Bytes.{byte_at}
use Rattle.layout.specs.Layout.{header_size, version_at, tables_at, size_at}
use Rattle.layout.specs.Tables.{version_in, clusters_in, clients_in}
use Rattle.items.specs.Items.{head_form, sizes_form, item_size, item_bytes, numbers_at}
use Rattle.items.specs.Lines.{head_letter, sizes_letter, line, lines_at, head_line, sizes_line}
use Rattle.items.proofs.Sizes.{head-size, sizes-size}
use Rattle.items.proofs.Bytes.{item_back, item-before}

module _ (l more : List ℕ) where
  byte-before : (i : ℕ) → i < length l → byte_at (l ++ more) i ≡ byte_at l i
  byte-before i h = get_or-append l more 0 i h

  -- THE HEADER

  module _ (long : header_size ≤ length l) where
    pub version-before : version_in (l ++ more) ≡ version_in l
    version-before =
        ap₂ (λ (x y : ℕ). x + 256 * y) (byte-before 3 (omega arith)) (byte-before 4 (omega arith))

    pub clusters-before : clusters_in (l ++ more) ≡ clusters_in l
    clusters-before = byte-before 5 (omega arith)

    pub clients-before : clients_in (l ++ more) ≡ clients_in l
    clients-before = byte-before 6 (omega arith)

    pub head-before : tables_at (version_in l) ≤ length l → head_line (l ++ more) ≡ head_line l
    head-before h =
        ap (λ (v : ℕ). line head_letter (numbers_at (head_form v) (l ++ more) version_at)) version-before
        ∙ ap (line head_letter)
        (item-before l more (head_form (version_in l)) version_at (omega (arith, head-size (version_in l))))

    pub sizes-before : size_at (version_in l) (clusters_in l) ≤ length l → sizes_line (l ++ more) ≡ sizes_line l
    sizes-before h =
        let k = clusters_in l in
        ap₂ (λ (x v : ℕ). line sizes_letter (numbers_at (sizes_form x) (l ++ more) (tables_at v)))
        clusters-before version-before
        ∙ ap (line sizes_letter)
        (item-before l more (sizes_form k) (tables_at (version_in l)) (omega (arith, sizes-size k)))

  -- LINES

  pub lines-before : (letter : ℕ) (form : List ℕ) (at n : ℕ) → at + item_size form * n ≤ length l
      → lines_at letter form (l ++ more) at n ≡ lines_at letter form l at n
  lines-before letter form at zero h = refl
  lines-before letter form at (suc n) h =
      let size = item_size form in
      let next : size * suc n ≡ size * n + size = mul-suc size n in
      ap₂ (λ (x : List ℕ) (y : List ℕ). x ++ line letter y)
      (lines-before letter form at n (omega (arith, next)))
      (item-before l more form (at + size * n) (omega (arith, next)))

-- an item's numbers, where its bytes are the last
pub last-item : (form ns l : List ℕ) (at : ℕ) → length form ≡ length ns → at ≡ length l
    → numbers_at form (l ++ item_bytes form ns) at ≡ ns
last-item form ns l at e h =
    ap (λ (x : List ℕ). numbers_at form (l ++ x) at) (sym (append-nil (item_bytes form ns)))
    ∙ item_back form ns l [] at e h
