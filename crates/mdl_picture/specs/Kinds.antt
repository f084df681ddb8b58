-- How shapes look, by W3C's "Cascading Style Sheets (CSS) 2.2" and "Media Queries Level 5". The colours are this project's own choice.
use Rattle.std.specs.Prelude.{ℕ, List, [], ◌∷◌, ◌++◌, codes, flat_map}
use Rattle.mdl_picture.specs.declared.kind.Kind.{Kind}
use Rattle.mdl_picture.specs.declared.kind.Kind.TheVariants.{Arrow, Bar, Done, Failed, Ground, Guide, Head, Held, Lane, Mode, Number, Refused, Said, Stripes, Waiting, Words}

-- the class name of shapes of a kind in a style
abbrev pub kind_name : Kind → List ℕ
kind_name Ground = codes "ground"
kind_name Lane = codes "lane"
kind_name Guide = codes "guide"
kind_name Number = codes "number"
kind_name Words = codes "words"
kind_name Said = codes "said"
kind_name Done = codes "done"
kind_name Waiting = codes "waiting"
kind_name Failed = codes "failed"
kind_name Refused = codes "refused"
kind_name Bar = codes "bar"
kind_name Stripes = codes "stripes"
kind_name Held = codes "held"
kind_name Mode = codes "mode"
kind_name Arrow = codes "arrow"
kind_name Head = codes "head"

-- the style of a kind in a light scheme
abbrev pub day_style : Kind → List ℕ
day_style Ground = codes "fill:#fff"
day_style Lane = codes "fill:#f1f3f5"
day_style Guide = codes "stroke:#d0d7de"
day_style Number = codes "fill:#59636e;font-size:11px"
day_style Words = codes "fill:#1f2328"
day_style Said = codes "fill:#1f2328;font-weight:600"
day_style Done = codes "fill:#fff;stroke:#6e7781"
day_style Waiting = codes "fill:#fff;stroke:#9a6700"
day_style Failed = codes "fill:#fff;stroke:#d1242f;stroke-width:3;stroke-dasharray:6 3"
day_style Refused = codes "fill:#fff;stroke:#6e7781;stroke-dasharray:2 2"
day_style Bar = codes "fill:url(#hatch);stroke:#9a6700"
day_style Stripes = codes "stroke:#9a6700;stroke-width:2"
day_style Held = codes "fill:#dafbe1;stroke:#1a7f37"
day_style Mode = codes "fill:#1f2328;font-size:10px"
day_style Arrow = codes "stroke:#0969da;stroke-width:2;marker-end:url(#head)"
day_style Head = codes "fill:#0969da"

-- the style of a kind in a dark scheme, as far as it differs
abbrev pub night_style : Kind → List ℕ
night_style Ground = codes "fill:#0d1117"
night_style Lane = codes "fill:#1a1f26"
night_style Guide = codes "stroke:#3d444d"
night_style Number = codes "fill:#9198a1"
night_style Words = codes "fill:#e6edf3"
night_style Said = codes "fill:#e6edf3"
night_style Done = codes "fill:#0d1117;stroke:#818b98"
night_style Waiting = codes "fill:#0d1117;stroke:#d29922"
night_style Failed = codes "fill:#0d1117;stroke:#f85149"
night_style Refused = codes "fill:#0d1117;stroke:#818b98"
night_style Bar = codes "stroke:#d29922"
night_style Stripes = codes "stroke:#d29922"
night_style Held = codes "fill:#12261e;stroke:#3fb950"
night_style Mode = codes "fill:#e6edf3"
night_style Arrow = codes "stroke:#58a6ff"
night_style Head = codes "fill:#58a6ff"

-- all kinds. A style has a rule for each
abbrev pub kinds : List Kind
kinds =
    Ground ∷ Lane ∷ Guide ∷ Number ∷ Words ∷ Said ∷ Done ∷ Waiting ∷ Failed ∷ Refused ∷ Bar ∷ Stripes ∷ Held ∷ Mode
    ∷ Arrow ∷ Head ∷ []

unfoldable pub rule : Kind → List ℕ → List ℕ
rule kind style = codes "." ++ kind_name kind ++ codes "{" ++ style ++ codes "}"

abbrev pub day_rule : Kind → List ℕ
day_rule kind = rule kind (day_style kind)

abbrev pub night_rule : Kind → List ℕ
night_rule kind = rule kind (night_style kind)

-- the style of a picture, for light and dark schemes
unfoldable pub style : List ℕ
style =
    codes "text{font:12px Menlo,Consolas,monospace}" ++ flat_map day_rule kinds
    ++ codes "@media (prefers-color-scheme:dark){" ++ flat_map night_rule kinds ++ codes "}"
