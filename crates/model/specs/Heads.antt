-- What the head of a request asks for, and which heads are refused (RFC 9110, RFC 9112).
use Rattle.std.specs.Prelude.{ℕ, ◌+◌, ◌-◌, Bool, true, false, take, drop, find, ◌&&◌, ◌||◌, not, ◌==◌, nat_lt, nat_le, List, [], ◌∷◌, ◌++◌, length, filter, map, flat_map, Option, Some, None, Result, Ok, Err, codes, bytes_eq, if◌then◌else◌, ⊤, is_err}
use Rattle.std.specs.List.{list_all, list_any, slice_split, before_first, ends_with}
use Rattle.std.specs.Str.{is_utf8, str_eq_ignore_ascii_case}
use Rattle.std.specs.Str.Parse.{digits_value}
use Rattle.std.specs.Char.{is_ascii_digit}
use Rattle.httparse.specs.Ascii.{comma, semicolon}
use Rattle.httparse.specs.Grammar.{RequestHead, field_value, trim_ows}
use Rattle.names.specs.Texts.{parts, between, slash, is_empty, largest_object}
use Rattle.names.specs.declared.rules.Rule.{Rule}
use Rattle.names.specs.declared.rules.Rule.TheVariants.{H2, H3, H4, H5, H6, H7, H8}
use Rattle.model.specs.declared.Form.{Form}
use Rattle.model.specs.declared.Form.TheVariants as form
use Rattle.model.specs.Reading.{◌>>=◌, check, ok_or, or_default}
use Rattle.model.specs.Orders.{first}

-- ---- fields

-- the values of the fields of that name; letter case does not matter
abbrev pub values : List ℕ → RequestHead → List (List ℕ)
values name head = map field_value (filter (λ f. str_eq_ignore_ascii_case f.name name) head.fields)

-- there are at most n values
abbrev pub at_most : ℕ → List (List ℕ) → Bool
at_most n values = nat_le (length values) n

-- the method of the head, compared by bytes
abbrev pub is_method : List ℕ → RequestHead → Bool
is_method name head = bytes_eq head.method name

-- the values of Content-Length
abbrev pub lengths : RequestHead → List (List ℕ)
lengths head = values (codes "content-length") head

-- a length is 1 to 18 digits
abbrev pub is_length : List ℕ → Bool
is_length value = between 1 18 (length value) && list_all is_ascii_digit value

-- the number of bytes of body after the head: 0 if there is no Content-Length
abbrev pub content_length : RequestHead → ℕ
content_length head = digits_value 10 (or_default (first (lengths head)) [])

-- the largest JSON body, in bytes
abbrev pub largest_form : ℕ
largest_form = 1048576

-- the items of comma-separated values
abbrev pub items : List (List ℕ) → List (List ℕ)
items values = flat_map (λ value. map trim_ows (slice_split (λ b. b == comma) value)) values

-- an item of Accept that names the type of the Git LFS API, without its parameters
abbrev pub is_accepted : List ℕ → Bool
is_accepted item =
    let kind = trim_ows (before_first (λ b. b == semicolon) item) in
    list_any (str_eq_ignore_ascii_case kind)
    (codes "application/vnd.git-lfs+json" ∷ codes "application/*" ∷ codes "*/*" ∷ [])

-- a head without Accept accepts everything
abbrev pub accepts : List (List ℕ) → Bool
accepts [] = true
accepts (value ∷ values) = list_any is_accepted (slice_split (λ b. b == comma) value)

-- the connection ends after this request: it is of HTTP/1.0, or a Connection field lists close
abbrev pub asks_close : RequestHead → Bool
asks_close head =
    head.minor == 0 || list_any (str_eq_ignore_ascii_case (codes "close")) (items (values (codes "connection") head))

-- ---- routes

-- a segment of a route's path: this text, or a parameter, which is any text
pub data Segment : Type 0 where
  literal : List ℕ → Segment
  parameter : Segment

-- a route: the end of its path, what each method asks there, and whether the replies are JSON
pub record RouteRow : Type 0 where
  pub rest : List Segment
  pub requests : List (List ℕ × Form)
  pub is_json : Bool

-- a route whose replies are JSON
abbrev pub json_route : List Segment → List (List ℕ × Form) → RouteRow
json_route rest requests = record { rest = rest; requests = requests; is_json = true }

-- a route whose replies are contents of objects
abbrev pub content_route : List Segment → List (List ℕ × Form) → RouteRow
content_route rest requests = record { rest = rest; requests = requests; is_json = false }

-- a method and the form that it asks for
abbrev pub get : Form → List ℕ × Form
get form = (codes "GET", form)

-- the same for POST
abbrev pub post : Form → List ℕ × Form
post form = (codes "POST", form)

-- the same for PUT
abbrev pub put : Form → List ℕ × Form
put form = (codes "PUT", form)

-- the table of routes
abbrev pub routes : List RouteRow
routes =
    json_route (literal (codes "objects") ∷ literal (codes "batch") ∷ []) (post form.Batch ∷ [])
    ∷ json_route (literal (codes "locks") ∷ []) (get form.List ∷ post form.Lock ∷ [])
    ∷ json_route (literal (codes "locks") ∷ literal (codes "verify") ∷ []) (post form.VerifyLocks ∷ [])
    ∷ json_route (literal (codes "locks") ∷ parameter ∷ literal (codes "unlock") ∷ []) (post form.Unlock ∷ [])
    ∷ content_route (literal (codes "content") ∷ parameter ∷ []) (get form.Get ∷ put form.Put ∷ [])
    ∷ json_route (literal (codes "verify") ∷ []) (post form.Verify ∷ [])
    ∷ []

-- the segments of a route after the repository's two
abbrev pub under_lfs : List Segment → List Segment
under_lfs rest = literal (codes "info") ∷ literal (codes "lfs") ∷ rest

-- the parts of a path are those of the route
abbrev pub fits : List Segment → List (List ℕ) → Bool
fits [] [] = true
fits (literal text ∷ row) (part ∷ parts) = bytes_eq part text && fits row parts
fits (parameter ∷ row) (part ∷ parts) = fits row parts
fits _ _ = false

-- the part that is the route's parameter; empty if it has none
abbrev pub parameter_in : List Segment → List (List ℕ) → List ℕ
parameter_in (literal text ∷ row) (part ∷ parts) = parameter_in row parts
parameter_in (parameter ∷ row) (part ∷ parts) = part
parameter_in _ _ = []

-- the parts after the repository's two are those of the route
abbrev pub row_fits : List (List ℕ) → RouteRow → Bool
row_fits parts row = fits (under_lfs row.rest) parts

-- owner/name, if the second part of the path is name.git
abbrev pub repo_text : List ℕ → List ℕ → Option (List ℕ)
repo_text owner part =
    if ends_with (λ a b. a == b) part (codes ".git") then Some (owner ++ slash ∷ take (length part - 4) part) else None

-- the result of routing a path: the repository's text, the parameter, and the row of the table
pub record Route : Type 0 where
  pub repo : List ℕ
  pub parameter : List ℕ
  pub row : RouteRow

-- the route of a path, by its parts: /owner/name.git/info/lfs/.., with no empty part
abbrev pub route_of_parts : List (List ℕ) → Result Route Rule
route_of_parts ([] ∷ owner ∷ part ∷ rest) = do
  whole ← check (list_all (λ p. not (is_empty p)) (owner ∷ part ∷ rest)) H6
  repo ← ok_or (repo_text owner part) H6
  row ← ok_or (find (row_fits rest) routes) H6
  Ok (record { repo = repo; parameter = parameter_in (under_lfs row.rest) rest; row = row })
route_of_parts _ = Err H6

-- the byte before a query
abbrev pub question_mark : ℕ
question_mark = 63

-- the path of a target, without its query
abbrev pub path_of : List ℕ → List ℕ
path_of target = before_first (λ b. b == question_mark) target

-- the query of a target: all after the first question mark
abbrev pub query_of : List ℕ → List ℕ
query_of target = drop (length (path_of target) + 1) target

-- the route of a target
abbrev pub route_at : List ℕ → Result Route Rule
route_at target = check (is_utf8 target) H6 >>= λ text. route_of_parts (parts (path_of target))

-- the form that the method asks for
abbrev pub form_of : List ℕ → List (List ℕ × Form) → Option Form
form_of method [] = None
form_of method (r ∷ requests) = if bytes_eq method r.0 then Some r.1 else form_of method requests

-- the texts, with a comma and a space between them
abbrev pub comma_list : List (List ℕ) → List ℕ
comma_list [] = []
comma_list (text ∷ []) = text
comma_list (text ∷ more ∷ texts) = text ++ codes ", " ++ comma_list (more ∷ texts)

-- the methods of a route
abbrev pub methods_of : Result Route Rule → List ℕ
methods_of (Ok route) = comma_list (map (λ (r : List ℕ × Form). r.0) route.row.requests)
methods_of (Err rule) = []

-- the methods that are served at the target
abbrev pub methods_at : List ℕ → List ℕ
methods_at target = methods_of (route_at target)

-- ---- the rules of a head

-- a POST or PUT body is not larger than its limit
abbrev pub is_small : RequestHead → Bool
is_small head =
    if is_method (codes "POST") head then nat_le (content_length head) largest_form
    else (if is_method (codes "PUT") head then nat_le (content_length head) largest_object else true)

-- a POST or a PUT states the size of its body
abbrev pub is_measured : RequestHead → Bool
is_measured head =
    not (is_method (codes "POST") head || is_method (codes "PUT") head) || not (at_most 0 (lengths head))

-- no field that matters occurs twice, and a GET has no body
abbrev pub is_clear : RequestHead → Bool
is_clear head =
    at_most 1 (lengths head) && list_all is_length (lengths head)
    && at_most 1 (values (codes "authorization") head) && at_most 1 (values (codes "accept") head)
    && not (is_method (codes "GET") head && nat_lt 0 (content_length head))

-- the rules on the length of the body, and on fields that occur twice
abbrev pub check_framing : RequestHead → Result ⊤ Rule
check_framing head = do
  uncoded ← check (at_most 0 (values (codes "transfer-encoding") head)) H2
  measured ← check (is_measured head) H3
  clear ← check (is_clear head) H4
  check (is_small head) H5

-- what a head asks for
pub record Target : Type 0 where
  pub repo : List ℕ
  pub parameter : List ℕ
  pub form : Form

-- the first rule that refuses the head, or what it asks for
unfoldable pub head_verdict : RequestHead → Result Target Rule
head_verdict head = do
  whole ← check_framing head
  route ← route_at head.target
  form ← ok_or (form_of head.method route.row.requests) H7
  acceptable ← check (not route.row.is_json || accepts (values (codes "accept") head)) H8
  Ok (record { repo = route.repo; parameter = route.parameter; form = form })

-- the size of the body of the head, in bytes; a refused head has no body
abbrev pub body_length : RequestHead → ℕ
body_length head = if is_err (head_verdict head) then 0 else content_length head
