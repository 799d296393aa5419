mod Budgets
mod Answered
