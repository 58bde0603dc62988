-- What the words of a line say: the head, a command, or the first reason that holds.
use Rattle.std.specs.Prelude.{ℕ, ◌^◌, ◌&&◌, nat_le, nat_lt, Bool, true, false, List, [], ◌∷◌, codes, Result, Ok, Err, if◌then◌else◌}
use Rattle.std.specs.Str.{bytes_eq}
use Rattle.xl_model.specs.declared.address.Order.{Order}
use Rattle.xl_model.specs.declared.event.Event.{Event}
use Rattle.xl_model.specs.declared.event.Event.TheVariants as event
use Rattle.xl_script.specs.Placing.{end_of}
use Rattle.xl_hart_model.specs.declared.hart.HartEvent.{HartEvent}
use Rattle.xl_hart_model.specs.declared.hart.HartEvent.TheVariants as step
use Rattle.xl_hart_model.specs.declared.hart.HartSpec.{HartSpec}
use Rattle.xl_hart_script.specs.declared.command.HartCommand.{HartCommand}
use Rattle.xl_hart_script.specs.declared.command.HartCommand.TheVariants as command
use Rattle.xl_hart_script.specs.declared.command.Line.{Line}
use Rattle.xl_hart_script.specs.declared.command.Line.TheVariants as line
use Rattle.xl_hart_script.specs.declared.lines.Leaves.{Leaves}
use Rattle.xl_hart_script.specs.declared.lines.Name.{Name}
use Rattle.xl_hart_script.specs.declared.lines.Name.TheVariants as name
use Rattle.xl_script.specs.declared.reason.Reason.{Reason}
use Rattle.xl_script.specs.declared.reason.Reason.TheVariants as reason
use Rattle.xl_script.specs.Reading.{◌>>=◌, address_in, count_in, last_count, number, order_in, perm_in, short_in}

-- The limits, where each space has a node for its root.
abbrev pub head_at : HartSpec → Result HartSpec Reason
head_at spec = if nat_lt spec.nodes spec.spaces then Err reason.Number else Ok spec

-- The words of a head, from left to right.
unfoldable pub head_words : List ℕ → List ℕ → List ℕ → List ℕ → List ℕ → List ℕ → Result HartSpec Reason
head_words harts queue frames nodes spaces sets =
    number 1 8 harts >>= (λ h.
    number 1 64 queue >>= (λ q.
    number 1 4194304 frames >>= (λ f.
    number 1 16384 nodes >>= (λ n.
    number 1 64 spaces >>= (λ s.
    number 1 2048 sets >>= (λ k. head_at (record { harts = h; queue = q; frames = f; nodes = n; spaces = s; sets = k })))))))

-- `harts COUNT QUEUE FRAMES NODES SPACES SETS`
abbrev pub head_line : List (List ℕ) → Result HartSpec Reason
head_line (harts ∷ queue ∷ frames ∷ nodes ∷ spaces ∷ sets ∷ []) = head_words harts queue frames nodes spaces sets
head_line _ = Err reason.WordCount

-- n events of the current hart, of which this is the first.
abbrev pub events : Event → ℕ → HartCommand
events e n = command.Events (step.Own e) n

-- SPACE ADDR ORDER PERM N, read from left to right.
unfoldable pub leaves_words : List ℕ → List ℕ → List ℕ → List ℕ → List ℕ → Result Leaves Reason
leaves_words space addr size perm n =
    short_in space >>= (λ s.
    address_in addr >>= (λ va.
    order_in size >>= (λ o.
    perm_in perm >>= (λ p.
    count_in n >>= (λ k. Ok (record { space = s; va = va; order = o; perm = p; n = k }))))))

-- `SPACE ADDR ORDER PERM [N]`
abbrev pub leaves_line : List (List ℕ) → Result Leaves Reason
leaves_line (space ∷ addr ∷ size ∷ perm ∷ rest) = last_count rest >>= (λ n. leaves_words space addr size perm n)
leaves_line _ = Err reason.WordCount

-- `map SPACE ADDR ORDER PERM [N]`
abbrev pub map_line : List (List ℕ) → Result HartCommand Reason
map_line words = leaves_line words >>= (λ l. Ok (events (event.Map l.space l.va l.order l.perm) l.n))

-- `protect SPACE ADDR ORDER PERM [N]`
abbrev pub protect_line : List (List ℕ) → Result HartCommand Reason
protect_line words = leaves_line words >>= (λ l. Ok (events (event.Protect l.space l.va l.order l.perm) l.n))

-- The words of an unmap, from left to right.
unfoldable pub unmap_words : List ℕ → List ℕ → List ℕ → List ℕ → Result HartCommand Reason
unmap_words space addr size n =
    short_in space >>= (λ s.
    address_in addr >>= (λ va.
    order_in size >>= (λ o.
    count_in n >>= (λ k. Ok (events (event.Unmap s va o) k)))))

-- `unmap SPACE ADDR ORDER [N]`
abbrev pub unmap_line : List (List ℕ) → Result HartCommand Reason
unmap_line (space ∷ addr ∷ size ∷ rest) = last_count rest >>= (λ n. unmap_words space addr size n)
unmap_line _ = Err reason.WordCount

-- The words of a move, from left to right.
unfoldable pub move_words : List ℕ → List ℕ → List ℕ → List ℕ → List ℕ → Result HartCommand Reason
move_words space from to size n =
    short_in space >>= (λ s.
    address_in from >>= (λ a.
    address_in to >>= (λ b.
    order_in size >>= (λ o.
    count_in n >>= (λ k. Ok (events (event.Move s a b o) k))))))

-- `move SPACE FROM TO ORDER [N]`
abbrev pub move_line : List (List ℕ) → Result HartCommand Reason
move_line (space ∷ from ∷ to ∷ size ∷ rest) = last_count rest >>= (λ n. move_words space from to size n)
move_line _ = Err reason.WordCount

-- One word that is a number from 0 to 65535.
abbrev pub only_number : List (List ℕ) → Result ℕ Reason
only_number (word ∷ []) = short_in word
only_number _ = Err reason.WordCount

-- `space SPACE`
abbrev pub space_line : List (List ℕ) → Result HartCommand Reason
space_line words = only_number words >>= (λ s. Ok (events (event.Space s) 1))

-- `hart H`
abbrev pub hart_line : List (List ℕ) → Result HartCommand Reason
hart_line words = only_number words >>= (λ h. Ok (command.Events (step.Hart h) 1))

-- `take H`
abbrev pub take_line : List (List ℕ) → Result HartCommand Reason
take_line words = only_number words >>= (λ h. Ok (command.Events (step.Take h) 1))

-- `run N` or `run rest`
abbrev pub run_line : List (List ℕ) → Result HartCommand Reason
run_line (n ∷ []) =
    if bytes_eq n (codes "rest") then Ok command.RunRest
    else (number 1 4294967295 n >>= (λ k. Ok (command.Run k)))
run_line _ = Err reason.WordCount

-- n blocks from an address on end by the last address of 64 bits.
abbrev pub fits : ℕ → Order → ℕ → Bool
fits va o n = nat_le (end_of va o n) (2 ^ 64)

-- All that n events of the current hart name lies in 64 bits; a move names two blocks each.
abbrev pub own_fits : Event → ℕ → Bool
own_fits (event.Map space va o perm) n = fits va o n
own_fits (event.Unmap space va o) n = fits va o n
own_fits (event.Protect space va o perm) n = fits va o n
own_fits (event.Move space from to o) n = fits from o n && fits to o n
own_fits (event.Access va kind) n = true
own_fits (event.Space space) n = true
own_fits (event.Fence to) n = true

-- The same of events.
abbrev pub fits_events : HartEvent → ℕ → Bool
fits_events (step.Own e) n = own_fits e n
fits_events (step.Hart h) n = true
fits_events (step.Take h) n = true

-- The same of a command.
abbrev pub fits_command : HartCommand → Bool
fits_command (command.Events first n) = fits_events first n
fits_command (command.Run n) = true
fits_command command.RunRest = true

-- A command, where all that it names lies in 64 bits.
unfoldable pub placed : HartCommand → Result HartCommand Reason
placed c = if fits_command c then Ok c else Err reason.PastTheEnd

-- The line that a first word names.
unfoldable pub name_of : List ℕ → Result Name Reason
name_of word =
    if bytes_eq word (codes "harts") then Ok name.Harts
    else (if bytes_eq word (codes "hart") then Ok name.Hart
    else (if bytes_eq word (codes "take") then Ok name.Take
    else (if bytes_eq word (codes "map") then Ok name.Map
    else (if bytes_eq word (codes "unmap") then Ok name.Unmap
    else (if bytes_eq word (codes "protect") then Ok name.Protect
    else (if bytes_eq word (codes "move") then Ok name.Move
    else (if bytes_eq word (codes "space") then Ok name.Space
    else (if bytes_eq word (codes "run") then Ok name.Run
    else Err reason.FirstWord))))))))

-- The name of a head.
abbrev pub is_head : Name → Bool
is_head name.Harts = true
is_head name.Hart = false
is_head name.Take = false
is_head name.Map = false
is_head name.Unmap = false
is_head name.Protect = false
is_head name.Move = false
is_head name.Space = false
is_head name.Run = false

-- A head where there is none yet, or another line after one.
abbrev pub turn : Bool → Bool → Name → Result Name Reason
turn true true n = Err reason.Head
turn true false n = Ok n
turn false true n = Ok n
turn false false n = Err reason.Head

-- A head is the first line, and no later one.
abbrev pub in_turn : Bool → Name → Result Name Reason
in_turn opened n = turn opened (is_head n) n

-- A command as a line.
abbrev pub own_line : HartCommand → Result Line Reason
own_line c = placed c >>= (λ d. Ok (line.Own d))

-- The line of a name, by the words after the first.
abbrev pub line_named : Name → List (List ℕ) → Result Line Reason
line_named name.Harts rest = head_line rest >>= (λ spec. Ok (line.Head spec))
line_named name.Hart rest = hart_line rest >>= own_line
line_named name.Take rest = take_line rest >>= own_line
line_named name.Map rest = map_line rest >>= own_line
line_named name.Unmap rest = unmap_line rest >>= own_line
line_named name.Protect rest = protect_line rest >>= own_line
line_named name.Move rest = move_line rest >>= own_line
line_named name.Space rest = space_line rest >>= own_line
line_named name.Run rest = run_line rest >>= own_line

-- A line, by its first word and the words after it: 1, then 8, then the others.
unfoldable pub line_of : Bool → List ℕ → List (List ℕ) → Result Line Reason
line_of opened first rest = name_of first >>= in_turn opened >>= (λ n. line_named n rest)
