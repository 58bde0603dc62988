-- What the words of a line say: a command, or the first reason that holds.
use Rattle.std.specs.Prelude.{ℕ, ◌*◌, ◌/◌, ◌%◌, ◌^◌, ◌==◌, ◌&&◌, nat_le, List, [], ◌∷◌, codes, Result, Ok, Err, if◌then◌else◌}
use Rattle.std.specs.List.{list_all}
use Rattle.std.specs.Str.{bytes_eq}
use Rattle.xl_model.specs.Addresses.{pages_of}
use Rattle.xl_model.specs.declared.address.Order.{Order}
use Rattle.xl_model.specs.declared.perm.Perm.{Perm}
use Rattle.xl_model.specs.declared.event.Scope.TheVariants as scope
use Rattle.xl_model.specs.declared.script.Command.{Command}
use Rattle.xl_model.specs.declared.script.Command.TheVariants as command
use Rattle.xl_script.specs.declared.reason.Reason.{Reason}
use Rattle.xl_script.specs.declared.reason.Reason.TheVariants as reason
use Rattle.xl_script.specs.declared.lines.Leaves.{Leaves}
use Rattle.xl_script.specs.Reading.{◌>>=◌, address_in, count_in, number, one, order_in, perm_in, short_in}
use Rattle.xl_script.specs.Placing.{ends_of}

-- SPACE ADDR ORDER PERM N, read from left to right.
unfoldable pub checked_leaves : List ℕ → List ℕ → List ℕ → List ℕ → List ℕ → Result Leaves Reason
checked_leaves space addr size perm n =
    short_in space >>= (λ s.
    address_in addr >>= (λ va.
    order_in size >>= (λ o.
    perm_in perm >>= (λ p.
    count_in n >>= (λ k. Ok (record { space = s; va = va; order = o; perm = p; n = k }))))))

-- SPACE ADDR ORDER PERM [N]
abbrev pub leaves_of : List (List ℕ) → Result Leaves Reason
leaves_of (space ∷ addr ∷ size ∷ perm ∷ []) = checked_leaves space addr size perm one
leaves_of (space ∷ addr ∷ size ∷ perm ∷ n ∷ []) = checked_leaves space addr size perm n
leaves_of _ = Err reason.WordCount

-- `map SPACE ADDR ORDER PERM [N]`
abbrev pub map_line : List (List ℕ) → Result Command Reason
map_line words = leaves_of words >>= (λ l. Ok (command.Map l.space l.va l.order l.perm l.n))

-- `protect SPACE ADDR ORDER PERM [N]`
abbrev pub protect_line : List (List ℕ) → Result Command Reason
protect_line words = leaves_of words >>= (λ l. Ok (command.Protect l.space l.va l.order l.perm l.n))

-- The words of an unmap, from left to right.
unfoldable pub unmap_words : List ℕ → List ℕ → List ℕ → List ℕ → Result Command Reason
unmap_words space addr size n =
    short_in space >>= (λ s.
    address_in addr >>= (λ va.
    order_in size >>= (λ o.
    count_in n >>= (λ k. Ok (command.Unmap s va o k)))))

-- `unmap SPACE ADDR ORDER [N]`
abbrev pub unmap_line : List (List ℕ) → Result Command Reason
unmap_line (space ∷ addr ∷ size ∷ []) = unmap_words space addr size one
unmap_line (space ∷ addr ∷ size ∷ n ∷ []) = unmap_words space addr size n
unmap_line _ = Err reason.WordCount

-- The words of a move, from left to right.
unfoldable pub move_words : List ℕ → List ℕ → List ℕ → List ℕ → List ℕ → Result Command Reason
move_words space from to size n =
    short_in space >>= (λ s.
    address_in from >>= (λ a.
    address_in to >>= (λ b.
    order_in size >>= (λ o.
    count_in n >>= (λ k. Ok (command.Move s a b o k))))))

-- `move SPACE FROM TO ORDER [N]`
abbrev pub move_line : List (List ℕ) → Result Command Reason
move_line (space ∷ from ∷ to ∷ size ∷ []) = move_words space from to size one
move_line (space ∷ from ∷ to ∷ size ∷ n ∷ []) = move_words space from to size n
move_line _ = Err reason.WordCount

-- `space SPACE`
abbrev pub space_line : List (List ℕ) → Result Command Reason
space_line (space ∷ []) = short_in space >>= (λ s. Ok (command.Space s))
space_line _ = Err reason.WordCount

-- `fence all`
abbrev pub fence_all : List (List ℕ) → Result Command Reason
fence_all [] = Ok (command.Fence scope.All)
fence_all _ = Err reason.WordCount

-- `fence space SPACE`
abbrev pub fence_space : List (List ℕ) → Result Command Reason
fence_space (space ∷ []) = short_in space >>= (λ s. Ok (command.Fence (scope.Space s)))
fence_space _ = Err reason.WordCount

-- `fence addr ADDR`
abbrev pub fence_addr : List (List ℕ) → Result Command Reason
fence_addr (addr ∷ []) = address_in addr >>= (λ va. Ok (command.Fence (scope.Addr va)))
fence_addr _ = Err reason.WordCount

-- `fence page SPACE ADDR`
abbrev pub fence_page : List (List ℕ) → Result Command Reason
fence_page (space ∷ addr ∷ []) =
    short_in space >>= (λ s. address_in addr >>= (λ va. Ok (command.Fence (scope.Page s va))))
fence_page _ = Err reason.WordCount

-- A fence, by the word that says how far it reaches.
unfoldable pub fence_by : List ℕ → List (List ℕ) → Result Command Reason
fence_by reach rest =
    if bytes_eq reach (codes "all") then fence_all rest
    else (if bytes_eq reach (codes "space") then fence_space rest
    else (if bytes_eq reach (codes "addr") then fence_addr rest
    else (if bytes_eq reach (codes "page") then fence_page rest
    else Err reason.FirstWord)))

-- `fence all`, `fence space SPACE`, `fence addr ADDR` or `fence page SPACE ADDR`
abbrev pub fence_line : List (List ℕ) → Result Command Reason
fence_line [] = Err reason.WordCount
fence_line (reach ∷ rest) = fence_by reach rest

-- An area begins at a multiple of its leaves' size and has a whole number of them.
abbrev pub area_at : ℕ → ℕ → ℕ → Order → Perm → Result Command Reason
area_at s va pages o p =
    if (va % (4096 * pages_of o) == 0) && (pages % pages_of o == 0)
    then Ok (command.Demand (record { space = s; page = va / 4096; pages = pages; order = o; perm = p }))
    else Err reason.PastTheEnd

-- The words of a demand, from left to right.
unfoldable pub demand_words : List ℕ → List ℕ → List ℕ → List ℕ → List ℕ → Result Command Reason
demand_words space addr pages size perm =
    short_in space >>= (λ s.
    address_in addr >>= (λ va.
    number 1 35184372088832 pages >>= (λ n.
    order_in size >>= (λ o.
    perm_in perm >>= (λ p. area_at s va n o p)))))

-- `demand SPACE ADDR PAGES ORDER PERM`
abbrev pub demand_line : List (List ℕ) → Result Command Reason
demand_line (space ∷ addr ∷ pages ∷ size ∷ perm ∷ []) = demand_words space addr pages size perm
demand_line _ = Err reason.WordCount

-- `run N` or `run rest`
abbrev pub run_line : List (List ℕ) → Result Command Reason
run_line (n ∷ []) =
    if bytes_eq n (codes "rest") then Ok command.RunRest
    else (number 1 4294967295 n >>= (λ k. Ok (command.Run k)))
run_line _ = Err reason.WordCount

-- A line by its first word, as far as its words are read one by one.
unfoldable pub named : List ℕ → List (List ℕ) → Result Command Reason
named first rest =
    if bytes_eq first (codes "map") then map_line rest
    else (if bytes_eq first (codes "unmap") then unmap_line rest
    else (if bytes_eq first (codes "protect") then protect_line rest
    else (if bytes_eq first (codes "move") then move_line rest
    else (if bytes_eq first (codes "space") then space_line rest
    else (if bytes_eq first (codes "fence") then fence_line rest
    else (if bytes_eq first (codes "demand") then demand_line rest
    else (if bytes_eq first (codes "run") then run_line rest
    else Err reason.FirstWord)))))))

-- A command, where all that it names lies in 64 bits.
unfoldable pub placed : Command → Result Command Reason
placed c = if list_all (λ e. nat_le e (2 ^ 64)) (ends_of c) then Ok c else Err reason.PastTheEnd

-- The command of a line, by its first word and the words after it.
abbrev pub command_of : List ℕ → List (List ℕ) → Result Command Reason
command_of first rest = named first rest >>= placed
