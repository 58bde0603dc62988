-- Lines with short sizes, by the places of their parts.
use Rattle.xl_lackey.proofs.Common.{◌++◌, ◌+◌, ◌<◌, ◌==◌, ◌^◌, ◌∙◌, ◌∷◌, ◌≡◌, ◌≤◌, address_in, ap, arith, drop, drop_more, false, fits, Found, get_or, hex_value, length, length-append, length-drop, List, nat_tests, refl, size_in, slice_index, Some, sym, take, true, usual_front, ℕ}
use Rattle.xl_lackey.proofs.AddressLemmas.{after_first, hex_at}
use Rattle.xl_lackey.proofs.OwnFormLemmas.{front_length, own_at}
use Rattle.xl_lackey.specs.Nears.{IsNumbers}

comma_read : (value count b : ℕ) (rest : List ℕ) → b ≡ 44 → 1 ≤ count → hex_at value count (b ∷ rest) ≡ Some (value, rest)
comma_read value count b rest e l =
    let t : (b == 44) ≡ true = grind (arith, nat_tests) in
    let u : (count == 0) ≡ false = grind (arith, nat_tests) in
    rw (t, u) refl

-- an address that a comma ends after its first digits
pub comma_at : (text : List ℕ) (v count : ℕ) → hex_value 0 (take count text) ≡ Some v → count < length text → 1 ≤ count → count ≤ 16
    → get_or text count 0 ≡ 44 → Some (v, drop (count + 1) text) ≡ address_in text
comma_at text v count h within some few e =
    sym (ap (hex_at v count) (drop_more text count 0 within) ∙ comma_read v count (get_or text count 0) (drop (count + 1) text) e some)
    ∙ after_first text v count h (omega arith) few

-- an address and a short size, by the places of their ends
pub numbers_at : (text u : List ℕ) (addr comma size above digits : ℕ) → comma + digits + 2 ≤ length text → u ≡ drop (comma + 1) text → size ≡ above + 1 → size < 100
    → fits addr size ≡ true → Some (addr, drop (comma + 1) text) ≡ address_in text → Some (size, digits) ≡ size_in u → slice_index u digits ≡ 10
    → IsNumbers text (record { addr = addr; above = above; used = comma + digits + 5 })
numbers_at text u addr comma size above digits long e some small fit address sizes newline =
    let within : addr + size ≤ 2 ^ 64 = grind (arith, nat_tests, fit, some) in record {
      small = omega (arith, some);
      line = λ l. record {
        within = omega (arith, length-append (usual_front l) text, front_length l);
        some = omega arith;
        line = own_at l (usual_front l ++ text) text u addr comma size digits refl e address sizes
            (omega (arith, ap length e, length-drop (comma + 1) text)) newline fit
            ∙ ap (λ (k : ℕ). Some (drop (comma + digits + 5) (usual_front l ++ text), Found l addr k)) some;
        proper = (omega (arith, some), omega (arith, some, within));
      };
    }

-- an address of twelve digits at most and a short size lie within 2^64
pub near_fits : (addr size : ℕ) → addr < 2 ^ 48 → size < 100 → fits addr size ≡ true
near_fits addr size a b = grind (arith, nat_tests)
