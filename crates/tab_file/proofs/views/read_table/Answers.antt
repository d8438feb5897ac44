use Rattle.std.proofs.Common.{◌≡◌, ◌+◌, ◌-◌, length, take, drop, Ok, sym, ◌∙◌, ap, subst, arith, length-drop}
use Rattle.std.proofs.lemmas.Bool.{both_ways, false≢true}
use Rattle.pat_place.specs.Patterns.{IsPattern}
use Rattle.std.specs.List.{AllByRecursion}
use Rattle.byteorder.specs.Endian.{big_number}
use Rattle.tab_file.specs.Tables.{entry_count}
use Rattle.tab_file.specs.HeadFields.{entry_count_in}
use Rattle.tab_file.specs.declared.headers.HeadFault.TheVariants.{T1, T2, T3, T4, T5, T6}
use Rattle.tab_file.proofs.FaultLemmas.{begins-from, begins-test, drop-rest, pattern_named, refused, accepted, table_named, Passes, all_faults}
use Rattle.tab_file.proofs.views.read_table.Goals as goal
use Rattle.tab_file.proofs.views.read_table.Goals.{then-file-size-via-then-file-size, then-file-size-via-else-file-size+then-file-ne0}

-- bytes that are fewer than a header has are refused for T1
pub returns-then-file-lt-HEADER_LEN : goal.returns-then-file-lt-HEADER_LEN
returns-then-file-lt-HEADER_LEN c = refused c.args.file.now T1 tt (λ room. let short = c.if-file-lt-HEADER_LEN.true in omega arith)

-- bytes that don't begin with the signature are refused for T2
pub returns-then-not-starts_with : goal.returns-then-not-starts_with
returns-then-not-starts_with c =
    refused c.args.file.now T2 (c.if-file-lt-HEADER_LEN.false, tt)
    (λ begins. both_ways c.starts_with.result c.if-not-starts_with.true (begins-test c.args.file.now c.starts_with.result c.starts_with.ensures.value begins))

-- bytes that name no side from 2 to 5 are refused for T3
pub returns-in_default : goal.returns-in_default
returns-in_default c =
    refused c.args.file.now T3 (
      c.if-file-lt-HEADER_LEN.false,
      (begins-from c.args.file.now c.starts_with.result c.starts_with.ensures.value c.if-not-starts_with.false, tt),
    )
    (λ side. c.in_default.ensures side)

-- bytes whose mask is no pattern of their side are refused for T4
pub returns-in_default-of_mask : goal.returns-in_default-of_mask
returns-in_default-of_mask c =
    let named = pattern_named c.args.file.now c.in-Some.side c.read_u32.result c.in-Some.ensures.1 c.read_u32.ensures in
    refused c.args.file.now T4 (
      c.if-file-lt-HEADER_LEN.false,
      (begins-from c.args.file.now c.starts_with.result c.starts_with.ensures.value c.if-not-starts_with.false, (c.in-Some.ensures.0, tt)),
    )
    (λ pattern. false≢true (c.in_default-of_mask.ensures.pattern.1 (subst IsPattern (sym named) pattern.0)))

-- bytes that name a wrong number of tiles, or whose byte 7 isn't 0, are refused for T4
pub returns-then-file-size : goal.returns-then-file-size
returns-then-file-size c =
    let named = c.in-Some-of_mask.ensures.value ∙ pattern_named c.args.file.now c.in-Some.side c.read_u32.result c.in-Some.ensures.1 c.read_u32.ensures in
    refused c.args.file.now T4 (
      c.if-file-lt-HEADER_LEN.false,
      (begins-from c.args.file.now c.starts_with.result c.starts_with.ensures.value c.if-not-starts_with.false, (c.in-Some.ensures.0, tt)),
    )
    (λ pattern. elim c.then-file-size.branch [
      | then-file-size-via-then-file-size w ↦ w.if-file-size.true (pattern.1 ∙ sym (c.size.ensures.size ∙ ap (λ p. length p.tiles) named))
      | then-file-size-via-else-file-size+then-file-ne0 w ↦ w.if-file-ne0.true pattern.2
    ])

-- bytes that name another number of entries than the pattern has are refused for T5
pub returns-then-read_u64-count : goal.returns-then-read_u64-count
returns-then-read_u64-count c =
    let named = c.in-Some-of_mask.ensures.value ∙ pattern_named c.args.file.now c.in-Some.side c.read_u32.result c.in-Some.ensures.1 c.read_u32.ensures in
    let pattern : Passes T4 c.args.file.now = (
      subst IsPattern named c.size.ensures.pattern,
      c.if-file-size.false ∙ c.size.ensures.size
          ∙ ap (λ p. length p.tiles) named,
      c.if-file-ne0.false,
    ) in
    refused c.args.file.now T5 (
      c.if-file-lt-HEADER_LEN.false,
      (begins-from c.args.file.now c.starts_with.result c.starts_with.ensures.value c.if-not-starts_with.false, (c.in-Some.ensures.0, (pattern, tt))),
    )
    (λ right. c.if-read_u64-count.true (c.read_u64.ensures ∙ ap (big_number 8) (drop-rest 12 c.args.file.now) ∙ right
    ∙ sym (c.entry_count-count.ensures.count ∙ ap entry_count named)))

-- bytes that have another number of entries than they name are refused for T6
pub returns-then-entries-count : goal.returns-then-entries-count
returns-then-entries-count c =
    let named = c.in-Some-of_mask.ensures.value ∙ pattern_named c.args.file.now c.in-Some.side c.read_u32.result c.in-Some.ensures.1 c.read_u32.ensures in
    let pattern : Passes T4 c.args.file.now = (
      subst IsPattern named c.size.ensures.pattern,
      c.if-file-size.false ∙ c.size.ensures.size
          ∙ ap (λ p. length p.tiles) named,
      c.if-file-ne0.false,
    ) in
    let read : c.read_u64.result ≡ entry_count_in c.args.file.now = c.read_u64.ensures ∙ ap (big_number 8) (drop-rest 12 c.args.file.now) in
    let count = sym read ∙ c.if-read_u64-count.false ∙ c.entry_count-count.ensures.count ∙ ap entry_count named in
    refused c.args.file.now T6 (
      c.if-file-lt-HEADER_LEN.false,
      (
        begins-from c.args.file.now c.starts_with.result c.starts_with.ensures.value c.if-not-starts_with.false,
        (c.in-Some.ensures.0, (pattern, (count, tt))),
      ),
    )
    (λ whole. c.if-entries-count.true (
    let rest : length (take (length c.args.file.now - 20) (drop 20 c.args.file.now)) ≡ length c.args.file.now - 20 =
    ap length (drop-rest 20 c.args.file.now) ∙ length-drop 20 c.args.file.now in
    let behind : length c.args.file.now - 20 ≡ entry_count_in c.args.file.now = omega arith in
    rest ∙ behind ∙ sym read ∙ c.if-read_u64-count.false))

-- bytes that pass all six tests are viewed as the table in them
pub returns : goal.returns
returns c =
    let named = c.in-Some-of_mask.ensures.value ∙ pattern_named c.args.file.now c.in-Some.side c.read_u32.result c.in-Some.ensures.1 c.read_u32.ensures in
    let pattern : Passes T4 c.args.file.now = (
      subst IsPattern named c.size.ensures.pattern,
      c.if-file-size.false ∙ c.size.ensures.size
          ∙ ap (λ p. length p.tiles) named,
      c.if-file-ne0.false,
    ) in
    let read : c.read_u64.result ≡ entry_count_in c.args.file.now = c.read_u64.ensures ∙ ap (big_number 8) (drop-rest 12 c.args.file.now) in
    let count = sym read ∙ c.if-read_u64-count.false ∙ c.entry_count-count.ensures.count ∙ ap entry_count named in
    let whole : length c.args.file.now ≡ 20 + entry_count_in c.args.file.now =
    (let rest : length (take (length c.args.file.now - 20) (drop 20 c.args.file.now)) ≡ length c.args.file.now - 20 =
    ap length (drop-rest 20 c.args.file.now) ∙ length-drop 20 c.args.file.now in
    let behind : length c.args.file.now - 20 ≡ entry_count_in c.args.file.now = sym rest ∙ c.if-entries-count.false ∙ sym c.if-read_u64-count.false ∙ read in
    let room = c.if-file-lt-HEADER_LEN.false in
    omega arith) in
    let all : AllByRecursion (λ f. Passes f c.args.file.now) all_faults = (
      c.if-file-lt-HEADER_LEN.false,
      (
        begins-from c.args.file.now c.starts_with.result c.starts_with.ensures.value c.if-not-starts_with.false,
        (c.in-Some.ensures.0, (pattern, (count, (whole, tt)))),
      ),
    ) in
    ap Ok (table_named c.args.file.now named) ∙ sym (accepted c.args.file.now all)
