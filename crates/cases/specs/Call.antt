use Rattle.std.specs.Prelude.{◌≡◌, ◌≢◌, ℕ, Result, MatchResult}
use Rattle.cases.specs.declared.call.Call.{Call}
use Rattle.cases.specs.declared.call.Call.TheVariants.{Sizes, Pool, Sheet, Leave, Best, SizeStart, Rank, RankSparse, RankBytes, UnrankInto, PascalRows, FillAdd, FillByLetter, Letter, NaiveBestEquity, BestEquityOf, BestEquityTable, BestKeepOf, SubsetMaxTransform, ApportionTable, ApportionFused, DynamicLeaveValue, RecordBlankVariants}
use Rattle.cases.specs.declared.call.UnknownCall.{UnknownCall}

-- the number that stands for a call in a list
abbrev pub number_of : Call → ℕ
number_of Sizes = 1
number_of Pool = 2
number_of Sheet = 3
number_of Leave = 4
number_of Best = 5
number_of SizeStart = 10
number_of Rank = 11
number_of RankSparse = 12
number_of RankBytes = 13
number_of UnrankInto = 14
number_of PascalRows = 15
number_of FillAdd = 16
number_of FillByLetter = 17
number_of Letter = 18
number_of NaiveBestEquity = 20
number_of BestEquityOf = 21
number_of BestEquityTable = 22
number_of BestKeepOf = 23
number_of SubsetMaxTransform = 24
number_of ApportionTable = 30
number_of ApportionFused = 31
number_of DynamicLeaveValue = 32
number_of RecordBlankVariants = 40

-- the result is the call of this number, or an error with a number that no call has
abbrev pub Decodes : ℕ → Result Call UnknownCall → Type 0
Decodes number r = MatchResult r (λ call. number_of call ≡ number)
    (λ e. (e.0 ≡ number) × ((call : Call) → number_of call ≢ number))
