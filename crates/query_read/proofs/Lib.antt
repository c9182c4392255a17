pub mod MarkTaken
pub mod ScanSteps
pub mod Ascending
pub mod PartScans
pub mod AndScans
pub mod EndedRefused
pub mod SoundScans
pub mod SoundAnds
pub mod Enders
pub mod OpenFaults
pub mod SectionPlaces
pub mod OpenQueries
pub mod FirstFaults
pub mod StopNames
pub mod FirstWrong
pub mod AnswerSteps
pub mod AtDepth
pub mod DepthSides
pub mod ItemSteps
pub mod JoinSteps
pub mod NodeValues
pub mod OnlyEnd
pub mod OrderSteps
pub mod RowSteps
pub mod SignSteps
pub mod ValueDeep
pub mod WholeQuery
-- parts that were recognized, in rows
pub mod RecognizedRows
-- what is recognized by each line of the grammar
pub mod RecognizedParts
-- the keywords of a query are those of its marks
pub mod QueryKeys
