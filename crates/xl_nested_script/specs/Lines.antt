-- What the words of a line say: the head, a command, or the first reason that holds.
use Rattle.std.specs.Prelude.{ℕ, ◌+◌, ◌^◌, nat_le, Bool, true, false, List, [], ◌∷◌, codes, Result, Ok, Err, if◌then◌else◌}
use Rattle.std.specs.List.{list_all}
use Rattle.std.specs.Str.{bytes_eq}
use Rattle.xl_model.specs.Rows.{is_width}
use Rattle.xl_model.specs.declared.perm.Perm.{Perm}
use Rattle.xl_script.specs.Placing.{end_of, AreInMemory}
use Rattle.xl_nested_model.specs.declared.nest.Nest.{Nest}
use Rattle.xl_nested_model.specs.declared.nest.NestEvent.{NestEvent}
use Rattle.xl_nested_model.specs.declared.nest.NestEvent.TheVariants as event
use Rattle.xl_nested_script.specs.declared.command.Line.{Line}
use Rattle.xl_nested_script.specs.declared.command.Line.TheVariants as line
use Rattle.xl_nested_script.specs.declared.command.NestCommand.{NestCommand}
use Rattle.xl_nested_script.specs.declared.command.NestCommand.TheVariants as command
use Rattle.xl_nested_script.specs.declared.lines.Name.{Name}
use Rattle.xl_nested_script.specs.declared.lines.Name.TheVariants as name
use Rattle.xl_script.specs.declared.reason.Reason.{Reason}
use Rattle.xl_script.specs.declared.reason.Reason.TheVariants as reason
use Rattle.xl_script.specs.Reading.{◌>>=◌, address_in, count_in, last_count, number, order_in, perm_in}

-- A permission with u.
abbrev pub user_perm : Perm → Result Perm Reason
user_perm p = if p.u then Ok p else Err reason.Perm

-- PERM of a host's leaf has u.
abbrev pub user_perm_in : List ℕ → Result Perm Reason
user_perm_in word = perm_in word >>= user_perm

-- A width of a recency list.
abbrev pub a_width : ℕ → Result ℕ Reason
a_width n = if is_width n then Ok n else Err reason.Number

-- GCACHE is a width.
abbrev pub width_in : List ℕ → Result ℕ Reason
width_in word = number 0 64 word >>= a_width

-- The sizes, where the guest's nodes are guest pages.
abbrev pub head_at : Nest → Result Nest Reason
head_at nest = if nat_le (nest.base + nest.nodes) (2 ^ 29) then Ok nest else Err reason.PastTheEnd

-- The words of a head, from left to right.
unfoldable pub head_words : List ℕ → List ℕ → List ℕ → List ℕ → List ℕ → Result Nest Reason
head_words base nodes frames g_nodes g_cache =
    address_in base >>= (λ b.
    number 1 16384 nodes >>= (λ n.
    number 1 4194304 frames >>= (λ f.
    number 4 16384 g_nodes >>= (λ g.
    width_in g_cache >>= (λ w. head_at (record { base = b; nodes = n; frames = f; g_nodes = g; g_cache = w }))))))

-- `guest BASE NODES FRAMES GNODES GCACHE`
abbrev pub head_line : List (List ℕ) → Result Nest Reason
head_line (base ∷ nodes ∷ frames ∷ g_nodes ∷ g_cache ∷ []) = head_words base nodes frames g_nodes g_cache
head_line _ = Err reason.WordCount

-- The words of a map at the host, from left to right.
unfoldable pub gmap_words : List ℕ → List ℕ → List ℕ → List ℕ → Result NestCommand Reason
gmap_words gaddr size perm n =
    address_in gaddr >>= (λ g.
    order_in size >>= (λ o.
    user_perm_in perm >>= (λ p.
    count_in n >>= (λ k. Ok (command.Events (event.GMap g o p) k)))))

-- `gmap GADDR ORDER PERM [N]`
abbrev pub gmap_line : List (List ℕ) → Result NestCommand Reason
gmap_line (gaddr ∷ size ∷ perm ∷ rest) = last_count rest >>= (λ n. gmap_words gaddr size perm n)
gmap_line _ = Err reason.WordCount

-- The words of an unmap at the host, from left to right.
unfoldable pub gunmap_words : List ℕ → List ℕ → List ℕ → Result NestCommand Reason
gunmap_words gaddr size n =
    address_in gaddr >>= (λ g.
    order_in size >>= (λ o.
    count_in n >>= (λ k. Ok (command.Events (event.GUnmap g o) k))))

-- `gunmap GADDR ORDER [N]`
abbrev pub gunmap_line : List (List ℕ) → Result NestCommand Reason
gunmap_line (gaddr ∷ size ∷ rest) = last_count rest >>= (λ n. gunmap_words gaddr size n)
gunmap_line _ = Err reason.WordCount

-- The words of a map at the guest, from left to right.
unfoldable pub vmap_words : List ℕ → List ℕ → List ℕ → List ℕ → List ℕ → Result NestCommand Reason
vmap_words va size gaddr perm n =
    address_in va >>= (λ v.
    order_in size >>= (λ o.
    address_in gaddr >>= (λ g.
    perm_in perm >>= (λ p.
    count_in n >>= (λ k. Ok (command.Events (event.VMap v o g p) k))))))

-- `vmap VA ORDER GADDR PERM [N]`
abbrev pub vmap_line : List (List ℕ) → Result NestCommand Reason
vmap_line (va ∷ size ∷ gaddr ∷ perm ∷ rest) = last_count rest >>= (λ n. vmap_words va size gaddr perm n)
vmap_line _ = Err reason.WordCount

-- The words of an unmap at the guest, from left to right.
unfoldable pub vunmap_words : List ℕ → List ℕ → List ℕ → Result NestCommand Reason
vunmap_words va size n =
    address_in va >>= (λ v.
    order_in size >>= (λ o.
    count_in n >>= (λ k. Ok (command.Events (event.VUnmap v o) k))))

-- `vunmap VA ORDER [N]`
abbrev pub vunmap_line : List (List ℕ) → Result NestCommand Reason
vunmap_line (va ∷ size ∷ rest) = last_count rest >>= (λ n. vunmap_words va size n)
vunmap_line _ = Err reason.WordCount

-- `run N` or `run rest`
abbrev pub run_line : List (List ℕ) → Result NestCommand Reason
run_line (n ∷ []) =
    if bytes_eq n (codes "rest") then Ok command.RunRest
    else (number 1 4294967295 n >>= (λ k. Ok (command.Run k)))
run_line _ = Err reason.WordCount

-- The addresses after the last bytes that events name, by the first of them. Those of a vmap name
-- two blocks each.
abbrev pub event_ends : NestEvent → ℕ → List ℕ
event_ends (event.Access va kind) n = []
event_ends (event.GMap gaddr o perm) n = end_of gaddr o n ∷ []
event_ends (event.GUnmap gaddr o) n = end_of gaddr o n ∷ []
event_ends (event.VMap va o gaddr perm) n = end_of va o n ∷ end_of gaddr o n ∷ []
event_ends (event.VUnmap va o) n = end_of va o n ∷ []

-- The same of a command.
abbrev pub ends_of : NestCommand → List ℕ
ends_of (command.Events first n) = event_ends first n
ends_of (command.Run n) = []
ends_of command.RunRest = []

-- All that a command names lies in 64 bits.
abbrev pub IsPlaced : NestCommand → Type 0
IsPlaced c = AreInMemory (ends_of c)

-- A command, where all that it names lies in 64 bits.
unfoldable pub placed : NestCommand → Result NestCommand Reason
placed c = if list_all (λ e. nat_le e (2 ^ 64)) (ends_of c) then Ok c else Err reason.PastTheEnd

-- The line that a first word names.
unfoldable pub name_of : List ℕ → Result Name Reason
name_of word =
    if bytes_eq word (codes "guest") then Ok name.Guest
    else (if bytes_eq word (codes "gmap") then Ok name.GMap
    else (if bytes_eq word (codes "gunmap") then Ok name.GUnmap
    else (if bytes_eq word (codes "vmap") then Ok name.VMap
    else (if bytes_eq word (codes "vunmap") then Ok name.VUnmap
    else (if bytes_eq word (codes "run") then Ok name.Run
    else Err reason.FirstWord)))))

-- The name of a head.
abbrev pub is_head : Name → Bool
is_head name.Guest = true
is_head name.GMap = false
is_head name.GUnmap = false
is_head name.VMap = false
is_head name.VUnmap = false
is_head name.Run = false

-- A head where there is none yet, or another line after one.
abbrev pub turn : Bool → Bool → Name → Result Name Reason
turn true true n = Err reason.Head
turn true false n = Ok n
turn false true n = Ok n
turn false false n = Err reason.Head

-- A head is the first line, and no later one.
abbrev pub in_turn : Bool → Name → Result Name Reason
in_turn opened n = turn opened (is_head n) n

-- A command as a line.
abbrev pub own_line : NestCommand → Result Line Reason
own_line c = placed c >>= (λ d. Ok (line.Own d))

-- The line of a name, by the words after the first.
abbrev pub line_named : Name → List (List ℕ) → Result Line Reason
line_named name.Guest rest = head_line rest >>= (λ nest. Ok (line.Head nest))
line_named name.GMap rest = gmap_line rest >>= own_line
line_named name.GUnmap rest = gunmap_line rest >>= own_line
line_named name.VMap rest = vmap_line rest >>= own_line
line_named name.VUnmap rest = vunmap_line rest >>= own_line
line_named name.Run rest = run_line rest >>= own_line

-- A line, by its first word and the words after it: 1, then 8, then the others.
unfoldable pub line_of : Bool → List ℕ → List (List ℕ) → Result Line Reason
line_of opened first rest = name_of first >>= in_turn opened >>= (λ n. line_named n rest)
